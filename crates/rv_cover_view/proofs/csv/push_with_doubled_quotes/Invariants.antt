use Rattle.std.proofs.Common.{◌≡◌, ◌++◌, take}
use Rattle.rv_cover_view.specs.Csv.{with_doubled_quotes}
use Rattle.rv_cover_view.proofs.csv.push_with_doubled_quotes.Given as goal

abbrev pub invariant-loop-byte : goal.invariant-loop-byte
invariant-loop-byte l = l.bytes.items ≡ l.fn.bytes.items ++ with_doubled_quotes (take l.byte-index l.field)
