use Rattle.std.proofs.Common.{◌≡◌, ◌+◌, ◌≤◌, length}
use Rattle.rv_job_text.specs.ConsoleTail.{text_lines}
use Rattle.rv_job_text.proofs.console_tail.line_count.Given as goal

abbrev pub invariant-loop-behind : goal.invariant-loop-behind
invariant-loop-behind l = record {
  count : l.count + length (text_lines l.rest) ≡ length (text_lines l.text);
  small : l.count + length l.rest ≤ length l.text;
}

abbrev pub decreases-loop-behind : goal.decreases-loop-behind
decreases-loop-behind l = length l.rest
