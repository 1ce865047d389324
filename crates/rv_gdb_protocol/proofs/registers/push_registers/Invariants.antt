use Rattle.std.proofs.Common.{◌≡◌, ◌++◌, take}
use Rattle.std.specs.List.{flat_map}
use Rattle.rv_gdb_protocol.specs.RegisterTexts.{register_text}
use Rattle.rv_gdb_protocol.proofs.registers.push_registers.Given as goal

abbrev pub invariant-loop-value : goal.invariant-loop-value
invariant-loop-value l = l.out.items ≡ l.fn.out.items ++ flat_map register_text (take l.value-index l.registers)
