use Rattle.std.proofs.Common.{◌∙◌, ap}
use Rattle.std.proofs.lemmas.List.{take_all}
use Rattle.std.specs.List.{flat_map}
use Rattle.rv_choice.specs.FailedJobNotes.{failed_job_note}
use Rattle.rv_choice.proofs.Names.{notes_of_names}
use Rattle.rv_choice.proofs.failed_jobs.removed_job_notes.Goals as goal

pub returns : goal.returns
returns c =
    let names = c.args.names.now in
    let note = failed_job_note c.args.path.now c.args.jobs.now in
    c.loop-name.invariant
    ∙ ap (flat_map (λ name. note name.now)) (take_all c.loop-name.name-index names c.loop-name-test.false)
    ∙ notes_of_names note names
