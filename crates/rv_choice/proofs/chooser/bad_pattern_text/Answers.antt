use Rattle.std.proofs.lemmas.Result.{IfOk-weaker}
use Rattle.rv_choice.proofs.chooser.bad_pattern_text.Goals as goal

pub returns : goal.returns
returns c = IfOk-weaker c.bad_value_text.result _ _ (λ text is. (c.as_str.result.now, is)) c.bad_value_text.ensures
