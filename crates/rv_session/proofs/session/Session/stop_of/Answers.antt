use Rattle.rv_session.proofs.session.Session.stop_of.Goals as goal

pub watch_stop-requires : goal.watch_stop-requires
watch_stop-requires c = λ is forward. c.requires c.in-WatchTriggered.is forward
