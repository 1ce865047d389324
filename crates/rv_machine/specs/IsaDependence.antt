-- How an ending depends on the instruction set.
use Rattle.std.specs.Prelude.{Bool, true, false, not}
use Rattle.rv_machine.specs.declared.ending.FaultKind.{FaultKind}
use Rattle.rv_machine.specs.declared.ending.FaultKind.TheVariants as fault
use Rattle.rv_machine.specs.declared.ending.Ending.{Ending}
use Rattle.rv_machine.specs.declared.ending.Ending.TheVariants.{Exit, Fault, Budget}

-- whether a fault of this kind can be caused by the choice of instruction set: the set lacks the instruction, or does not allow the target
-- of a jump
abbrev pub depends_on_isa : FaultKind → Bool
depends_on_isa fault.Illegal = true
depends_on_isa fault.FetchMisaligned = true
depends_on_isa _ = false

-- whether the ending does not depend on the instruction set: it is neither an illegal instruction nor a misaligned fetch
abbrev pub is_independent_of_isa : Ending → Bool
is_independent_of_isa (Exit code) = true
is_independent_of_isa (Fault kind pc value) = not (depends_on_isa kind)
is_independent_of_isa Budget = true
