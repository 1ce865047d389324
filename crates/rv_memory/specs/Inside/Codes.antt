-- How the prover encodes the contents of a bus: it encodes the contract value of a struct in a type that it knows, here nested pairs, and
-- recovers it unchanged. This file states no facts about buses.
use Rattle.std.specs.Prelude.{◌≡◌, ℕ, Bool, true, false, List, refl}
use Rattle.std.specs.Ordering.{nat_cmp}
use Rattle.std.specs.FinMap as fin
use Rattle.std.specs.FinSet as set
use Rattle.std.specs.Coded.{Coded, code_by, coded_ℕ, coded_bool, coded_list, coded×}
use Rattle.rv_memory.specs.declared.map.Region.{Region}
use Rattle.rv_memory.specs.declared.access.Misaligned.{Misaligned as MisalignedPolicy}
use Rattle.rv_memory.specs.declared.access.Misaligned.TheVariants.{Fault, Allow}
use Rattle.rv_memory.specs.Bus.{BusContents}

-- how a region is encoded: as its base, its size and whether it is writable
abbrev pub region_code : Coded Region
region_code =
    code_by (ℕ × (ℕ × Bool)) (coded× coded_ℕ (coded× coded_ℕ coded_bool))
    (λ r. (r.base, (r.size, r.writable)))
    (λ p. record { base = p.0; size = p.1.0; writable = p.1.1 }) (λ _. refl)

-- the Boolean that encodes the treatment of misaligned accesses: whether they are allowed
abbrev pub allows : MisalignedPolicy → Bool
allows Fault = false
allows Allow = true

-- the treatment of misaligned accesses that a Boolean encodes: `Allow` if it is true, and `Fault` if it is false
abbrev pub policy_of : Bool → MisalignedPolicy
policy_of false = Fault
policy_of true = Allow

-- a treatment of misaligned accesses is recovered unchanged from its Boolean
abbrev pub policy_round_trips : (m : MisalignedPolicy) → policy_of (allows m) ≡ m
policy_round_trips Fault = refl
policy_round_trips Allow = refl

-- how the treatment of misaligned accesses is encoded: as a Boolean, from which it is recovered unchanged
abbrev pub policy_code : Coded MisalignedPolicy
policy_code = code_by Bool coded_bool allows policy_of policy_round_trips

-- the fields of a bus's contents as nested pairs, in order
abbrev pub ContentsFields : Type 0
ContentsFields =
    List Region
    × (fin.FinMap nat_cmp ℕ × (set.FinSet nat_cmp × (List ℕ × (List ℕ × MisalignedPolicy))))

-- how the fields of a bus's contents are encoded
abbrev pub contents_fields_code : Coded ContentsFields
contents_fields_code =
    coded× (coded_list region_code)
    (coded× (fin.code coded_ℕ coded_ℕ)
    (coded× (set.code coded_ℕ)
    (coded× (coded_list coded_ℕ) (coded× (coded_list coded_ℕ) policy_code))))

-- how a bus's contents are encoded: as their fields
abbrev pub contents_code : Coded BusContents
contents_code =
    code_by ContentsFields contents_fields_code
    (λ c. (c.regions, (c.memory, (c.stored, (c.script, (c.output, c.misaligned))))))
    (λ p. record {
      regions = p.0;
      memory = p.1.0;
      stored = p.1.1.0;
      script = p.1.1.1.0;
      output = p.1.1.1.1.0;
      misaligned = p.1.1.1.1.1;
    })
    (λ _. refl)
