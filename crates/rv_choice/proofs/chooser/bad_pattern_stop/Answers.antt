use Rattle.rv_choice.proofs.BadValues.{stop_of_pattern_text}
use Rattle.rv_choice.proofs.chooser.bad_pattern_stop.Goals as goal

pub returns : goal.returns
returns c = stop_of_pattern_text _ _ _ _ c.bad_pattern_text-message.ensures c.bad_value_stop.ensures
