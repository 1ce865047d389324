-- Steps that cannot change the bus, recognized before they are executed.
use Rattle.std.specs.Prelude.{ℕ, ◌+◌, ◌/◌, ◌%◌, ◌==◌, ◌&&◌, ◌||◌, Bool, true, false, nat_le, not, length, Option, Some, None}
use Rattle.std.specs.FinMap as fin
use Rattle.std.specs.FinSet as set
use Rattle.rv_trace.specs.declared_instruction.Instr.{Instr}
use Rattle.rv_trace.specs.declared_instruction.Op.{Op}
use Rattle.rv_trace.specs.declared_instruction.Op.TheVariants as op
use Rattle.rv_trace.specs.Bus.{BusContents, size_of}
use Rattle.rv_trace.specs.declared_access.Width.{Width}
use Rattle.rv_trace.specs.declared_access.Width.TheVariants.{Byte, Half, Word}
use Rattle.rv_trace.specs.Effect.{address, rs2_value}
use Rattle.rv_trace.specs.State.{State}
use Rattle.rv_trace.specs.Steps.{instr_at}

-- ---- stores that change nothing

-- whether the `size` bytes that begin at an address are in the address space, and none of them is among the console's 16 bytes
abbrev pub are_outside_console : ℕ → ℕ → Bool
are_outside_console address size = nat_le (address + size) 0x1000_0000 || (nat_le 0x1000_0010 address && nat_le (address + size) 0x1_0000_0000)

-- whether there is a value, and it equals the other one
abbrev pub equals_value : Option ℕ → ℕ → Bool
equals_value None value = false
equals_value (Some other) value = other == value

-- whether the byte at an address already has this value and is marked as stored
abbrev pub has_byte_stored : BusContents → ℕ → ℕ → Bool
has_byte_stored bus address byte = equals_value (fin.get bus.memory address) byte && set.contains bus.stored address

-- whether the bytes at an address already have the values that a store of this width and value would give them, and are marked as stored
abbrev pub has_value_stored : BusContents → ℕ → Width → ℕ → Bool
has_value_stored bus address Byte value = has_byte_stored bus address (value % 0x100)
has_value_stored bus address Half value = has_byte_stored bus address (value % 0x100) && has_byte_stored bus (address + 1) (value / 0x100 % 0x100)
has_value_stored bus address Word value = has_byte_stored bus address (value % 0x100) && (has_byte_stored bus (address + 1) (value / 0x100 % 0x100)
    && (has_byte_stored bus (address + 2) (value / 0x1_0000 % 0x100) && has_byte_stored bus (address + 3) (value / 0x100_0000 % 0x100)))

-- whether a store would change nothing: it is outside the console, and the bytes there already have these values and are marked as stored
abbrev pub is_store_redundant : BusContents → ℕ → Width → ℕ → Bool
is_store_redundant bus address width value = are_outside_console address (size_of width) && has_value_stored bus address width value

-- ---- steps

-- whether a word load from this address consumes a byte of the console's input script: the address is the console's first, and the script
-- has a byte left
abbrev pub consumes_script : BusContents → ℕ → Bool
consumes_script bus address = address == 0x1000_0000 && not (length bus.script == 0)

-- whether an instruction, executed in this state, cannot change the bus: only loads and stores access the bus; FENCE.I is treated as if it
-- changed the bus
abbrev pub is_instr_quiet : Op → Instr → State → Bool
is_instr_quiet op.Lw i s = not (consumes_script s.bus (address s i))
is_instr_quiet op.Sb i s = is_store_redundant s.bus (address s i) Byte (rs2_value s i)
is_instr_quiet op.Sh i s = is_store_redundant s.bus (address s i) Half (rs2_value s i)
is_instr_quiet op.Sw i s = is_store_redundant s.bus (address s i) Word (rs2_value s i)
is_instr_quiet op.FenceI i s = false
is_instr_quiet _ i s = true

-- whether there is an instruction, and it cannot change the bus
abbrev pub is_quiet_if_found : Option Instr → State → Bool
is_quiet_if_found None s = false
is_quiet_if_found (Some i) s = is_instr_quiet i.op i s

-- whether the next step in this state cannot change the bus; false if there is no instruction at the pc
abbrev pub is_step_quiet : State → Bool
is_step_quiet s = is_quiet_if_found (instr_at s) s
