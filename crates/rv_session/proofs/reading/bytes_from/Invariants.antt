use Rattle.std.proofs.Common.{◌≡◌, ◌++◌, ◌+◌, ◌-◌}
use Rattle.std.specs.FinMap as fin
use Rattle.rv_session.specs.Memory.{bytes_requested, bytes_from}
use Rattle.rv_session.proofs.Looking.{bytes_left}
use Rattle.rv_session.proofs.reading.bytes_from.Given as goal

-- what is read, and what can still be read of the rest, is what is to be read
abbrev pub invariant-loop-offset : goal.invariant-loop-offset
invariant-loop-offset l = l.bytes.items ++ bytes_left (fin.get l.bus.memory) (l.range.address + l.offset)
    (bytes_requested l.range - l.offset) ≡ bytes_from l.bus l.range
