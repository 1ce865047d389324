use Rattle.std.proofs.Common.{◌≡◌, drop}
use Rattle.rv_job_text.specs.ConsoleLines.{complete_lines}
use Rattle.rv_job_text.proofs.console_lines.text_after_lines.Given as goal

abbrev pub invariant-loop-left : goal.invariant-loop-left
invariant-loop-left l = drop l.left (complete_lines l.rest) ≡ drop l.count (complete_lines l.text)

abbrev pub decreases-loop-left : goal.decreases-loop-left
decreases-loop-left l = l.left
