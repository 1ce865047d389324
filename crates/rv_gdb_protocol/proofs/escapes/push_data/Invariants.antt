use Rattle.std.proofs.Common.{◌≡◌, ◌++◌, drop, take, false, fold}
use Rattle.rv_gdb_protocol.specs.Escapes.{data_of, is_escape}
use Rattle.rv_gdb_protocol.proofs.escapes.push_data.Given as goal

abbrev pub invariant-loop-byte : goal.invariant-loop-byte
invariant-loop-byte l = (l.out.items ++ data_of l.after_escape (drop l.byte-index l.text)
    ≡ l.fn.out.items ++ data_of false l.text)
    × (l.after_escape ≡ fold is_escape false (take l.byte-index l.text))
