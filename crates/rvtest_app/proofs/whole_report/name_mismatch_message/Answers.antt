use Rattle.std.proofs.Common.{◌≡◌, ◌∙◌, ◌++◌, ℕ, List, [], append-nil, append_assoc}
use Rattle.std.specs.Fmt.{decimal}
use Rattle.std.specs.Prelude.{codes}
use Rattle.rv_job_text.specs.Printable.{printable_text}
use Rattle.rvtest_app.specs.IntoStops.{expected_whole_report}
use Rattle.rvtest_app.proofs.Results.{IfOk-map}
use Rattle.rvtest_app.proofs.whole_report.name_mismatch_message.Goals as goal

eleven_told : (a1 a2 a3 a4 a5 a6 a7 a8 a9 a10 a11 : List ℕ)
    → a1 ++ (a2 ++ (a3 ++ (a4 ++ (a5 ++ (a6 ++ (a7 ++ (a8 ++ (a9 ++ (a10 ++ (a11 ++ []))))))))))
    ≡ a1 ++ a2 ++ a3 ++ a4 ++ a5 ++ a6 ++ a7 ++ a8 ++ a9 ++ a10 ++ a11
eleven_told a1 a2 a3 a4 a5 a6 a7 a8 a9 a10 a11 = simp (append_assoc, append-nil)

pub returns : goal.returns
returns c =
    IfOk-map c.text_of_spans.result _ _
    (λ text is. is ∙ eleven_told (codes "rvtest: ") (printable_text c.args.path.now) (codes ": job ") (decimal c.args.name.number) (codes " is \"") c.args.name.in_report.now (codes "\", but \"") c.args.name.listed.now (codes "\" in ") (printable_text c.args.list_path.now) expected_whole_report)
    (rw (c.as_bytes.ensures.value, c.as_bytes-2.ensures.value) at c.text_of_spans.ensures)
