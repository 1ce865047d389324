use Rattle.std.proofs.Common.{◌≡◌, ◌∙◌, ◌++◌, ℕ, List, OnOk, append_assoc, subst, sym}
use Rattle.std.specs.Prelude.{codes}
use Rattle.rv_command.specs.Printable.{printable_text}
use Rattle.rv_choice.proofs.failed_jobs.push_removed_job_note.Goals as goal

four : (a b c d : List ℕ) → a ++ (b ++ (c ++ d)) ≡ a ++ b ++ c ++ d
four a b c d = sym (append_assoc (a ++ b) c d ∙ append_assoc a b (c ++ d))

pub returns : goal.returns
returns c =
    let before = codes ": note: job \"" in
    let name = c.args.name.now in
    let end = codes "\" failed, but is no longer in the list\n" in
    let IsTold : List ℕ → Type 0 =
    λ text. OnOk c.push_spans.result (c.push_spans.new.bytes.items ≡ c.args.notes.now.items ++ (codes "rvtest: " ++ text)) in
    subst IsTold (four (printable_text c.args.path.now) before name end)
    (subst (λ (path : List ℕ). IsTold (printable_text path ++ (before ++ (name ++ end)))) c.as_bytes.ensures.value c.push_spans.ensures)
