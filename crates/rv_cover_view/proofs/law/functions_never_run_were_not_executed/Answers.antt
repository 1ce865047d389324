use Rattle.rv_cover_view.proofs.Ran.{never_run_has_not_begun}
use Rattle.rv_cover_view.proofs.law.functions_never_run_were_not_executed.Goals as goal

pub returns : goal.returns
returns c = never_run_has_not_begun
