-- The addresses so far stand behind the text that there was.
use Rattle.std.proofs.Common.{◌≡◌, ◌++◌, take, string_bytes}
use Rattle.std.specs.List.{flat_map}
use Rattle.rv_count_tables.specs.Text.{address_line}
use Rattle.rv_count_tables.proofs.text.push_addresses.Given as goal

abbrev pub invariant-loop-counts : goal.invariant-loop-counts
invariant-loop-counts l = string_bytes l.text ≡ string_bytes l.fn.text ++ flat_map address_line (take l.counts-index l.addresses)
