use Rattle.rv_choice.proofs.BadValues.{stop_of_text}
use Rattle.rv_choice.proofs.shard.bad_shard_stop.Goals as goal

pub returns : goal.returns
returns c = stop_of_text _ _ _ c.bad_value_text-message.ensures c.bad_value_stop.ensures
