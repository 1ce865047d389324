-- What a caller of `load` has, once it made the bus.
use Rattle.std.proofs.Common.{◌≡◌, ◌∙◌, ℕ, List, sym, ap}
use Rattle.rv_memory.specs.declared.map.Region.{Region}
use Rattle.rv_memory.specs.declared.access.Misaligned.{Misaligned}
use Rattle.rv_memory.specs.Bus.{BusContents, new_bus}

-- its regions are those of the map that it was made with
pub regions_of_new : (b : BusContents) (rs : List Region) (script : List ℕ) (m : Misaligned) → b ≡ new_bus rs script m
    → b.regions ≡ rs
unfolding new_bus
regions_of_new b rs script m e = ap (λ c. c.regions) e

-- and it is the new bus of its regions, its script and its choice of misaligned accesses
pub is_new : (b : BusContents) (rs : List Region) (script : List ℕ) (m : Misaligned) → b ≡ new_bus rs script m
    → b ≡ new_bus b.regions b.script b.misaligned
unfolding new_bus
is_new b rs script m e =
    let r = sym (ap (λ c. c.regions) e) in
    let s = sym (ap (λ c. c.script) e) in
    let n = sym (ap (λ c. c.misaligned) e) in
    e ∙ (λ i. new_bus (r i) (s i) (n i))
