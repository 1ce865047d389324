-- The names of the faults of runs.
use Rattle.std.specs.Prelude.{ℕ, List, [], ◌∷◌, Option, codes}
use Rattle.std.specs.List.{find}
use Rattle.std.specs.Str.{bytes_eq}
use Rattle.rv_machine.specs.declared.ending.FaultKind.{FaultKind}
use Rattle.rv_machine.specs.declared.ending.FaultKind.TheVariants as fault

-- the name of this kind of fault, as reports show it
abbrev pub fault_name : FaultKind → List ℕ
fault_name fault.FetchAccess = codes "fetch-access"
fault_name fault.StaleCode = codes "stale-code"
fault_name fault.Illegal = codes "illegal"
fault_name fault.Breakpoint = codes "breakpoint"
fault_name fault.LoadMisaligned = codes "load-misaligned"
fault_name fault.LoadAccess = codes "load-access"
fault_name fault.StoreMisaligned = codes "store-misaligned"
fault_name fault.StoreAccess = codes "store-access"
fault_name fault.ConsoleFull = codes "console-full"
fault_name fault.UnknownCall = codes "unknown-call"
fault_name fault.FetchMisaligned = codes "fetch-misaligned"

-- all kinds of faults, in the order of their declaration
abbrev pub fault_kinds : List FaultKind
fault_kinds =
    fault.FetchAccess ∷ fault.StaleCode ∷ fault.Illegal ∷ fault.Breakpoint ∷ fault.LoadMisaligned
    ∷ fault.LoadAccess ∷ fault.StoreMisaligned ∷ fault.StoreAccess ∷ fault.ConsoleFull
    ∷ fault.UnknownCall ∷ fault.FetchMisaligned ∷ []

-- the kind of fault with this name, or `None` if there is none
abbrev pub fault_named : List ℕ → Option FaultKind
fault_named name = find (λ kind. bytes_eq name (fault_name kind)) fault_kinds
