use Rattle.rv_jobs.proofs.Needing.{used_answered}
use Rattle.rv_jobs.proofs.law.used_paths_have_results.Goals as goal

pub returns : goal.returns
returns c = used_answered
