use Rattle.rv_session.proofs.stoppoints.with_stoppoint.Goals as goal

pub returns-in-Break : goal.returns-in-Break
returns-in-Break c = rw c.in-Break.is (c.with_break.ensures c.args.bus.now)
