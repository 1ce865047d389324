use Rattle.std.proofs.Common.{◌≡◌, ◌∙◌, ◌+◌, ◌-◌, ap, drop, arith}
use Rattle.std.proofs.lemmas.List.{drop-drop}
use Rattle.rv_job_text.specs.ConsoleLines.{complete_lines}
use Rattle.rv_job_text.proofs.DifferingLines.{split_behind}
use Rattle.rv_job_text.proofs.console_lines.text_after_lines.Goals as goal

pub loop-left-preserved : goal.loop-left-preserved
loop-left-preserved c =
    let rest = c.loop-left.rest.now in
    let left = c.loop-left.left in
    let e = c.split_whole_line.ensures in
    let behind = split_behind rest c.split_whole_line.result.0.now c.split_whole_line.result.1.now e.some e.none in
    let whole : 1 + (left - 1) ≡ left = omega arith in
    ap (drop (left - 1)) behind ∙ drop-drop (left - 1) 1 (complete_lines rest)
    ∙ ap (λ n. drop n (complete_lines rest)) whole ∙ c.loop-left.invariant
