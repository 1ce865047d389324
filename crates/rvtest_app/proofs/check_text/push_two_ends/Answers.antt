use Rattle.std.proofs.Common.{◌≡◌, ◌++◌, ℕ, List, [], append-nil, append_assoc}
use Rattle.std.specs.Fmt.{decimal}
use Rattle.std.specs.Prelude.{codes, unwrap_or}
use Rattle.rv_job_text.proofs.Public.{told}
use Rattle.rvtest_app.specs.CheckText.{expected_end_name}
use Rattle.rvtest_app.proofs.check_text.push_two_ends.Goals as goal

five_told : (a b c d e : List ℕ) → a ++ (b ++ (c ++ (d ++ (e ++ [])))) ≡ (((a ++ b) ++ c) ++ d) ++ e
five_told a b c d e = simp (append_assoc, append-nil)

pub returns : goal.returns
returns c =
    told c.push_spans.result c.args.text.now.items c.push_spans.new.bytes.items _ _
    (five_told (codes "expect_exit = ") (decimal (unwrap_or c.args.code 0)) (codes " with expect_end = \"")
    (expected_end_name c.args.end) (codes "\": a run ends in only one way, so the job never passes"))
    (rw (c.unwrap_or.ensures, c.expected_end_name.ensures) at c.push_spans.ensures)
