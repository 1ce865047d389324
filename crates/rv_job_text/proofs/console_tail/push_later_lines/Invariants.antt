use Rattle.std.proofs.Common.{◌≡◌, ◌++◌, drop, length}
use Rattle.std.specs.List.{flat_map}
use Rattle.rv_job_text.specs.ConsoleTail.{console_tail_line, text_lines}
use Rattle.rv_job_text.proofs.console_tail.push_later_lines.Given as goal

abbrev pub invariant-loop-line : goal.invariant-loop-line
invariant-loop-line l =
    l.bytes.items ++ flat_map console_tail_line (drop l.earlier (text_lines l.rest))
    ≡ l.initial.bytes.items ++ flat_map console_tail_line (drop l.fn.earlier (text_lines l.text))

abbrev pub decreases-loop-line : goal.decreases-loop-line
decreases-loop-line l = length l.rest
