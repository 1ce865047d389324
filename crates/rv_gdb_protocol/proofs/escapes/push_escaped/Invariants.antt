use Rattle.std.proofs.Common.{◌≡◌, ◌++◌, take}
use Rattle.rv_gdb_protocol.specs.Escapes.{escaped}
use Rattle.rv_gdb_protocol.proofs.escapes.push_escaped.Given as goal

abbrev pub invariant-loop-byte : goal.invariant-loop-byte
invariant-loop-byte l = l.out.items ≡ l.fn.out.items ++ escaped (take l.byte-index l.body)
