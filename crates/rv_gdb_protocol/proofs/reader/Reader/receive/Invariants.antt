use Rattle.std.proofs.Common.{◌≡◌, take, [], fold}
use Rattle.rv_gdb_protocol.specs.ReaderStates.{state_after_byte, incoming_in}
use Rattle.rv_gdb_protocol.proofs.reader.Reader.receive.Given as goal

abbrev pub invariant-loop-at : goal.invariant-loop-at
invariant-loop-at l = (incoming_in l.fn.self (take l.at l.bytes) ≡ [])
    × (l.self ≡ fold state_after_byte l.fn.self (take l.at l.bytes))
