use Rattle.rv_command.proofs.Public.{told_stop}
use Rattle.rv_choice.proofs.chooser.nothing_left_stop.Goals as goal

pub returns : goal.returns
returns c = told_stop _ _ _ _ c.rejection.ensures c.nothing_left_message.ensures
