use Rattle.rv_command.proofs.Public.{told_stop}
use Rattle.rvtest_app.proofs.help_topic.no_topic_stop.Goals as goal

pub returns : goal.returns
returns c = told_stop _ _ _ _ c.rejection.ensures c.no_topic_message.ensures
