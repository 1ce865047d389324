use Rattle.std.proofs.Common.{◌≤◌, ◌-◌, length}
use Rattle.std.specs.Io.KnownBytes.{Consumes}
use Rattle.rv_files.proofs.input.read_at_most.Given as goal

abbrev pub invariant-reading : goal.invariant-reading
invariant-reading g l = record {
  room : length l.bytes.items ≤ l.limit;
  read : Consumes (g.R.Read.remaining l.initial.input) (g.R.Read.remaining l.input) l.bytes.items;
}

abbrev pub decreases-reading : goal.decreases-reading
decreases-reading g l = l.limit - length l.bytes.items
