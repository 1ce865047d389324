use Rattle.std.proofs.lemmas.Result.{IfOk-weaker}
use Rattle.rvtest_cli.proofs.args_error.text_with_usage.Goals as goal

pub returns : goal.returns
returns c = IfOk-weaker c.usage_error_text.result _ _ (λ text is. (c.as_str.result.now, is)) c.usage_error_text.ensures
