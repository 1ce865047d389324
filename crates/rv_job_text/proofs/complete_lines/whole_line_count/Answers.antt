use Rattle.std.proofs.Common.{◌≡◌, ap, length, arith}
use Rattle.std.proofs.lemmas.Grind.{common_steps}
use Rattle.rv_job_text.specs.ConsoleLines.{complete_lines}
use Rattle.rv_job_text.proofs.DifferingLines.{complete_lines-nil}
use Rattle.rv_job_text.proofs.complete_lines.whole_line_count.Goals as goal

pub returns : goal.returns
returns c =
    let empty : length c.loop-rest.rest.now ≡ 0 = grind (arith, common_steps) in
    let none : length (complete_lines c.loop-rest.rest.now) ≡ 0 = ap length (complete_lines-nil c.loop-rest.rest.now empty) in
    let kept = c.loop-rest.invariant.count in
    omega arith
