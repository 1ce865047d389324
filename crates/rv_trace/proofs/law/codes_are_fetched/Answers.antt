use Rattle.rv_trace.proofs.Fetched.{code_is_fetched}
use Rattle.rv_trace.proofs.law.codes_are_fetched.Goals as goal

pub returns : goal.returns
returns c = code_is_fetched
