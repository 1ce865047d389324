-- Loads from the console's input script when it has no bytes left, recognized before they are executed. Such a load returns all ones and
-- consumes nothing.
use Rattle.std.specs.Prelude.{◌==◌, ◌&&◌, Bool, false, length, Option, Some, None}
use Rattle.rv_trace.specs.declared_instruction.Instr.{Instr}
use Rattle.rv_trace.specs.declared_instruction.Op.{Op}
use Rattle.rv_trace.specs.declared_instruction.Op.TheVariants as op
use Rattle.rv_trace.specs.Effect.{address}
use Rattle.rv_trace.specs.State.{State}
use Rattle.rv_trace.specs.Steps.{instr_at}

-- whether an instruction is a word load from the console's first address while the script has no bytes left
abbrev pub loads_script_end : Op → Instr → State → Bool
loads_script_end op.Lw i s = address s i == 0x1000_0000 && length s.bus.script == 0
loads_script_end _ i s = false

-- whether there is an instruction and it loads from the exhausted input script
abbrev pub is_loading_if_found : Option Instr → State → Bool
is_loading_if_found None s = false
is_loading_if_found (Some i) s = loads_script_end i.op i s

-- whether the next step in this state loads from the exhausted input script
abbrev pub reads_script_end : State → Bool
reads_script_end s = is_loading_if_found (instr_at s) s
