use Rattle.std.proofs.Common.{◌≡◌, ◌++◌}
use Rattle.rv_job_text.specs.ConsoleLines.{diff_lines, complete_lines}
use Rattle.rv_job_text.proofs.console_lines.push_diff_lines.Given as goal

abbrev pub invariant-loop-left : goal.invariant-loop-left
invariant-loop-left l =
    l.bytes.items ++ diff_lines l.margin l.left (complete_lines l.own) (complete_lines l.other)
    ≡ l.initial.bytes.items ++ diff_lines l.margin l.initial.left (complete_lines l.initial.own) (complete_lines l.initial.other)

abbrev pub decreases-loop-left : goal.decreases-loop-left
decreases-loop-left l = l.left
