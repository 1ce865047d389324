use Rattle.std.proofs.Common.{◌≡◌, map, take}
use Rattle.rv_choice.specs.Choice.{failed_job_names}
use Rattle.rv_choice.proofs.failed_jobs.failed_job_names.Given as goal

abbrev pub invariant-loop-row : goal.invariant-loop-row
invariant-loop-row l =
    map (λ name. name.now) l.names.items ≡ failed_job_names l.rule (take l.row-index l.rows)
