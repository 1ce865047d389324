use Rattle.std.proofs.Common.{◌≡◌, ◌∙◌, ◌++◌, ℕ, List, [], append-nil, append_assoc}
use Rattle.std.specs.Prelude.{codes}
use Rattle.rv_job_text.specs.Printable.{printable_text}
use Rattle.rv_job_text.specs.TextWords.{count_text}
use Rattle.rvtest_app.specs.IntoStops.{expected_whole_report}
use Rattle.rvtest_app.proofs.Results.{IfOk-map}
use Rattle.rvtest_app.proofs.whole_report.row_count_message.Goals as goal

nine_told : (a1 a2 a3 a4 a5 a6 a7 a8 a9 : List ℕ)
    → a1 ++ (a2 ++ (a3 ++ (a4 ++ (a5 ++ (a6 ++ (a7 ++ (a8 ++ (a9 ++ []))))))))
    ≡ a1 ++ a2 ++ a3 ++ a4 ++ a5 ++ a6 ++ a7 ++ a8 ++ a9
nine_told a1 a2 a3 a4 a5 a6 a7 a8 a9 = simp (append_assoc, append-nil)

pub returns : goal.returns
returns c =
    IfOk-map c.text_of_spans.result _ _
    (λ text is. is ∙ nine_told (codes "rvtest: ") (printable_text c.args.path.now) (codes ": has ") (count_text c.args.rows (codes "row")) (codes ", but ") (printable_text c.args.list_path.now) (codes " has ") (count_text c.args.jobs (codes "job")) expected_whole_report)
    (rw (c.as_bytes.ensures.value, c.as_bytes-2.ensures.value) at c.text_of_spans.ensures)
