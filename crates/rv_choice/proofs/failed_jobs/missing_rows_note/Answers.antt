use Rattle.std.proofs.Common.{◌≡◌, ℕ, Bool, IfOk, List, [], subst, sym}
use Rattle.std.proofs.lemmas.Bool.{ne_eqb}
use Rattle.std.specs.Prelude.{codes, if◌then◌else◌}
use Rattle.rv_choice.specs.FailedJobNotes.{missing_rows_text}
use Rattle.rv_command.specs.Messages.{path_number_message}
use Rattle.rv_choice.proofs.failed_jobs.missing_rows_note.Goals as goal

pub returns : goal.returns
returns c =
    let missing = c.args.missing in
    let note : List ℕ → List ℕ = path_number_message c.args.path.now (codes ": note: ") missing in
    subst (λ (none : Bool). IfOk c.path_number_message.result
    (λ told. told.items ≡ (if none then [] else note (missing_rows_text missing)))) (sym (ne_eqb missing 0 c.if-missing-eq0.false))
    (subst (λ (what : List ℕ). IfOk c.path_number_message.result (λ told. told.items ≡ note what)) c.missing_rows_text.ensures
    c.path_number_message.ensures)
