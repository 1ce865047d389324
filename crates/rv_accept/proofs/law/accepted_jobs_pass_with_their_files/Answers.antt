use Rattle.rv_accept.proofs.OverFiles.{passes_over_files}
use Rattle.rv_accept.proofs.law.accepted_jobs_pass_with_their_files.Goals as goal

pub returns : goal.returns
returns c = passes_over_files
