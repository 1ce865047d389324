use Rattle.std.proofs.Common.{◌≡◌, ◌+◌, ◌-◌, ◌≤◌}
use Rattle.rv_job_text.specs.ConsoleLines.{differing_line_count, complete_lines}
use Rattle.rv_job_text.proofs.console_lines.differing_line_count.Given as goal

abbrev pub invariant-loop-count : goal.invariant-loop-count
invariant-loop-count l = record {
  counted : differing_line_count l.most (complete_lines l.initial.actual) (complete_lines l.initial.expected)
      ≡ l.count + differing_line_count (l.most - l.count) (complete_lines l.actual) (complete_lines l.expected);
  within : l.count ≤ l.most;
}

abbrev pub decreases-loop-count : goal.decreases-loop-count
decreases-loop-count l = l.most - l.count
