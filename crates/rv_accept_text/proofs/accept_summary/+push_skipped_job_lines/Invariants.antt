use Rattle.std.proofs.Common.{length}
use Rattle.rv_accept_text.proofs.accept_summary.+push_skipped_job_lines.Given as goal

abbrev pub decreases-push_skipped_job_lines : goal.decreases-push_skipped_job_lines
decreases-push_skipped_job_lines l = length l.jobs.now
