use Rattle.std.proofs.Common.{◌≡◌, take}
use Rattle.std.specs.List.{flat_map}
use Rattle.rv_choice.specs.FailedJobNotes.{failed_job_note}
use Rattle.rv_choice.proofs.failed_jobs.removed_job_notes.Given as goal

abbrev pub invariant-loop-name : goal.invariant-loop-name
invariant-loop-name l =
    l.notes.items ≡ flat_map (λ name. failed_job_note l.path l.jobs name.now) (take l.name-index l.names)
