use Rattle.std.proofs.Common.{◌≡◌, ◌+◌, drop}
use Rattle.rv_session.specs.Memory.{has_bytes_at}
use Rattle.rv_session.proofs.writing.has_bytes_at.Given as goal

-- what is asked of all bytes is asked of the rest
abbrev pub invariant-loop-offset : goal.invariant-loop-offset
invariant-loop-offset l = has_bytes_at l.bus l.address l.bytes ≡ has_bytes_at l.bus (l.address + l.offset) (drop l.offset l.bytes)
