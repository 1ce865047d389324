use Rattle.std.proofs.Common.{rules}
use Rattle.rv_rows.specs.Outcome.{file_outcome_of}
use Rattle.rv_rows.proofs.job_run.refusal_of_image.Goals as goal

pub returns : goal.returns
unfolding file_outcome_of
returns c = search rules
