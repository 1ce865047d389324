use Rattle.std.proofs.Common.{◌≡◌, ◌+◌, ◌-◌}
use Rattle.std.specs.FinMap as fin
use Rattle.rv_session.specs.Stoppoints.{has_byte}
use Rattle.rv_session.proofs.Looking.{any_left}
use Rattle.rv_session.proofs.stoppoints.has_byte.Given as goal

-- what is asked of all bytes is asked of the rest
abbrev pub invariant-loop-offset : goal.invariant-loop-offset
invariant-loop-offset l = has_byte l.bus l.range
    ≡ any_left (fin.get l.bus.memory) (l.range.address + l.offset) (l.range.count - l.offset)
