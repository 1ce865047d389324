use Rattle.rv_command.proofs.Public.{told_stop}
use Rattle.rv_choice.proofs.chooser.unmatched_pattern_stop.Goals as goal

pub returns : goal.returns
returns c = told_stop _ _ _ _ c.rejection.ensures c.unmatched_pattern_message.ensures
