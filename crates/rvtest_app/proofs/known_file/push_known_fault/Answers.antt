use Rattle.std.proofs.Common.{◌≡◌, ◌++◌, ℕ, List, [], append-nil, append_assoc, codes}
use Rattle.rv_job_text.specs.Printable.{printable_text, printable_value}
use Rattle.rv_job_text.proofs.Public.{told}
use Rattle.rvtest_app.proofs.known_file.push_known_fault.Goals as goal

four_told : (a b c d : List ℕ) → a ++ (b ++ (c ++ (d ++ []))) ≡ ((a ++ b) ++ c) ++ d
four_told a b c d = simp (append_assoc, append-nil)

pub returns-in-UnknownJob : goal.returns-in-UnknownJob
returns-in-UnknownJob c =
    rw c.in-UnknownJob.is
    (told _ _ _ _ _ (four_told (codes "no job named \"") (printable_value c.args.name.now) (codes "\" in ") (printable_text c.args.list_path.now))
    (rw c.as_bytes.ensures.value at c.push_spans-in-UnknownJob.ensures))
