use Rattle.std.proofs.Common.{◌≡◌, ◌++◌, take}
use Rattle.std.specs.List.{flat_map}
use Rattle.rv_accept_text.specs.AcceptLines.{value_line_in}
use Rattle.rv_accept_text.proofs.accept_summary.AcceptSummary.push_value_lines.Given as goal

abbrev pub invariant-loop-value : goal.invariant-loop-value
invariant-loop-value l = l.out.items ≡ l.fn.out.items ++ flat_map (value_line_in l.fn.self) (take l.value-index l.fn.self.new.now.values.items)
