use Rattle.std.proofs.Common.{◌≡◌, ◌-◌, false}
use Rattle.rv_lines.specs.Entries.{fields_at}
use Rattle.rv_lines.specs.EntriesInside.{path_and_rest}
use Rattle.rv_lines.proofs.entries.format_end.Given as goal

abbrev pub invariant-loop : goal.invariant-loop
invariant-loop l = path_and_rest l.has_path (fields_at (l.end - l.counter) l.rest) ≡ path_and_rest false (fields_at l.format.count l.format.bytes.now)
