use Rattle.std.proofs.Common.{◌≡◌, ◌-◌, [], refl, codes}
use Rattle.rv_text.proofs.Public.{told}
use Rattle.rv_job_text.specs.ConsoleLines.{equal_lines, diff_lines, complete_lines}
use Rattle.rv_job_text.proofs.DifferingLines.{complete_lines-nil}
use Rattle.rv_job_text.proofs.console_lines.push_equal_lines.Goals as goal

pub returns : goal.returns
returns c =
    let earlier = c.saturating_sub-earlier.result in
    let same : diff_lines (codes "       ") (c.args.equal - earlier) (complete_lines c.text_after_lines-last.result.now) (complete_lines [])
    ≡ equal_lines c.args.equal (complete_lines c.args.text.now) =
    rw (c.text_after_lines-last.ensures, complete_lines-nil [] refl, c.saturating_sub-earlier.ensures) refl in
    told _ _ _ _ _ same c.push_diff_lines.ensures
