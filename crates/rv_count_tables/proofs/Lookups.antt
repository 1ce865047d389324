-- Counts by address, where addresses rise.
use Rattle.std.proofs.Common.{◌≡◌, ◌∙◌, ◌==◌, ◌+◌, ◌<◌, ◌≤◌, ◌&&◌, ◌||◌, ℕ, zero, suc, Bool, true, false, cond, List, [], ◌∷◌, length, get_or, refl, sym, ap, arith, leb, ltb, inl, inr}
use Rattle.std.specs.List.{list_any}
use Rattle.std.proofs.lemmas.Bool.{and_parts, leb-true, cases_lt}
use Rattle.std.proofs.lemmas.Bool.Decides.{nat_tests}
use Rattle.std.proofs.lemmas.List.{get_or_default}
use Rattle.rv_count_tables.specs.declared.table.AddressCounts.{AddressCounts}
use Rattle.rv_count_tables.specs.Table.{executed_at, increase_from, taken_at}

-- the first of a list is not below the lowest, and the others are behind it
first_and_rest : (lowest : ℕ) (c : AddressCounts) (cs : List AddressCounts) → increase_from lowest (c ∷ cs) ≡ true
    → (lowest ≤ c.address) × (increase_from (c.address + 1) cs ≡ true)
unfolding increase_from
first_and_rest lowest c cs h =
    let p = and_parts (leb lowest c.address) (increase_from (c.address + 1) cs) h in
    (leb-true lowest c.address p.0, p.1)

in_order : (cs : List AddressCounts) (lowest k m : ℕ) (d : AddressCounts) → increase_from lowest cs ≡ true → k ≤ m → m < length cs
    → (lowest ≤ (get_or cs k d).address) × ((get_or cs k d).address ≤ (get_or cs m d).address)
in_order [] lowest k m d h under within = absurd (omega arith)
in_order (c ∷ cs) lowest zero zero d h under within = ((first_and_rest lowest c cs h).0, omega arith)
in_order (c ∷ cs) lowest (suc k) zero d h under within = absurd (omega arith)
in_order (c ∷ cs) lowest zero (suc m) d h under within =
    let l = first_and_rest lowest c cs h in
    let r = in_order cs (c.address + 1) m m d l.1 (omega arith) (omega arith) in
    (l.0, let a = r.0 in omega (arith, a))
in_order (c ∷ cs) lowest (suc k) (suc m) d h under within =
    let l = first_and_rest lowest c cs h in
    let r = in_order cs (c.address + 1) k m d l.1 (omega arith) (omega arith) in
    (let a = l.0 in let b = r.0 in omega (arith, a, b), r.1)

pub lower_half : (cs : List AddressCounts) (m address : ℕ) (e : AddressCounts) → increase_from 0 cs ≡ true → m < length cs
    → (get_or cs m e).address < address → (k : ℕ) (d : AddressCounts) → k < m + 1 → (get_or cs k d).address < address
lower_half cs m address e h within under k d less =
    let o = (in_order cs 0 k m d h (omega arith) within).1 in
    let s = ap (λ (c : AddressCounts). c.address) (get_or_default cs m d e within) in
    omega (arith, o, s, under)

pub higher_half : (cs : List AddressCounts) (m address : ℕ) (e : AddressCounts) → increase_from 0 cs ≡ true
    → address ≤ (get_or cs m e).address → (k : ℕ) (d : AddressCounts) → m ≤ k → k < length cs
    → address ≤ (get_or cs k d).address
higher_half cs m address e h over k d less within =
    let o = (in_order cs 0 m k d h less within).1 in
    let s = ap (λ (c : AddressCounts). c.address) (get_or_default cs m d e (omega arith)) in
    omega (arith, o, s, over)

-- ---- what stands at a place

-- a place in front of which all are lower than an address, and from which on none is
pub record IsPlaceOf (address : ℕ) (cs : List AddressCounts) (n : ℕ) : Type 0 where
  pub within : n ≤ length cs
  pub lower : (k : ℕ) (d : AddressCounts) → k < n → (get_or cs k d).address < address
  pub higher : (d : AddressCounts) → n < length cs → address ≤ (get_or cs n d).address

-- the same behind the first
behind_first : (address : ℕ) (c : AddressCounts) (cs : List AddressCounts) (n : ℕ) → IsPlaceOf address (c ∷ cs) (suc n)
    → (c.address < address) × IsPlaceOf address cs n
behind_first address c cs n p = (
  p.lower 0 c (omega arith),
  record {
    within = let w = p.within in omega (arith, w);
    lower = λ k d l. p.lower (suc k) d (omega arith);
    higher = λ d l. p.higher d (omega arith);
  },
)

other_first : (at executed rest address : ℕ) → at < address → cond (at == address) executed 0 + rest ≡ rest
other_first at executed rest address l = grind (arith, nat_tests)

higher_first : (at executed rest address : ℕ) → address < at → cond (at == address) executed 0 + rest ≡ rest
higher_first at executed rest address l = grind (arith, nat_tests)

same_first : (at executed rest address : ℕ) → at ≡ address → rest ≡ 0 → cond (at == address) executed 0 + rest ≡ executed
same_first at executed rest address e z = grind (arith, nat_tests)

-- an address in front of the lowest has no counts
below : (address lowest : ℕ) (cs : List AddressCounts) → increase_from lowest cs ≡ true → address < lowest
    → (executed_at address cs ≡ 0) × (taken_at address cs ≡ 0)
below address lowest [] h l = (refl, refl)
below address lowest (c ∷ cs) h l =
    let f = first_and_rest lowest c cs h in
    let under : address < c.address = (let a = f.0 in omega (arith, a)) in
    let r = below address (c.address + 1) cs f.1 (omega arith) in (
      higher_first c.address c.executed (executed_at address cs) address under ∙ r.0,
      higher_first c.address c.taken (taken_at address cs) address under ∙ r.1,
    )

-- an address that does not stand at its place has none
pub none_at : (address lowest : ℕ) (cs : List AddressCounts) (n : ℕ) → increase_from lowest cs ≡ true → IsPlaceOf address cs n
    → ((d : AddressCounts) → n < length cs → address < (get_or cs n d).address)
    → (executed_at address cs ≡ 0) × (taken_at address cs ≡ 0)
none_at address lowest [] n h p above = (refl, refl)
none_at address lowest (c ∷ cs) zero h p above =
    let f = first_and_rest lowest c cs h in
    let under : address < c.address = above c (omega arith) in
    let r = below address (c.address + 1) cs f.1 (omega arith) in (
      higher_first c.address c.executed (executed_at address cs) address under ∙ r.0,
      higher_first c.address c.taken (taken_at address cs) address under ∙ r.1,
    )
none_at address lowest (c ∷ cs) (suc n) h p above =
    let b = behind_first address c cs n p in
    let r = none_at address (c.address + 1) cs n (first_and_rest lowest c cs h).1 b.1 (λ d l. above d (omega arith)) in (
      other_first c.address c.executed (executed_at address cs) address b.0 ∙ r.0,
      other_first c.address c.taken (taken_at address cs) address b.0 ∙ r.1,
    )

-- one that stands there has those of its entry
pub those_at : (address lowest : ℕ) (cs : List AddressCounts) (n : ℕ) (d : AddressCounts) → increase_from lowest cs ≡ true
    → IsPlaceOf address cs n → n < length cs → (get_or cs n d).address ≡ address
    → (executed_at address cs ≡ (get_or cs n d).executed) × (taken_at address cs ≡ (get_or cs n d).taken)
those_at address lowest [] n d h p l e = absurd (omega arith)
those_at address lowest (c ∷ cs) zero d h p l e =
    let f = first_and_rest lowest c cs h in
    let r = below address (c.address + 1) cs f.1 (omega (arith, e)) in (
      same_first c.address c.executed (executed_at address cs) address e r.0,
      same_first c.address c.taken (taken_at address cs) address e r.1,
    )
those_at address lowest (c ∷ cs) (suc n) d h p l e =
    let b = behind_first address c cs n p in
    let r = those_at address (c.address + 1) cs n d (first_and_rest lowest c cs h).1 b.1 (omega arith) e in (
      other_first c.address c.executed (executed_at address cs) address b.0 ∙ r.0,
      other_first c.address c.taken (taken_at address cs) address b.0 ∙ r.1,
    )

pub strictly : (m n : ℕ) → m ≤ n → (n ≡ m → ⊥) → m < n
strictly m n l differ = elim (cases_lt m n) [
  | inl less ↦ less
  | inr over ↦ absurd (differ (omega (arith, l, over)))
]

-- ---- whether one of a range began

abbrev pub stands_within : ℕ → ℕ → AddressCounts → Bool
stands_within from behind c = leb from c.address && ltb c.address behind

none_within : (from behind lowest : ℕ) (cs : List AddressCounts) → increase_from lowest cs ≡ true → behind ≤ lowest
    → list_any (stands_within from behind) cs ≡ false
none_within from behind lowest [] h l = refl
none_within from behind lowest (c ∷ cs) h l =
    let f = first_and_rest lowest c cs h in
    let r = none_within from behind (c.address + 1) cs f.1 (let a = f.0 in omega (arith, a)) in
    past c.address r (let a = f.0 in omega (arith, a))
  where
    past : (at : ℕ) → list_any (stands_within from behind) cs ≡ false → behind ≤ at
        → (leb from at && ltb at behind) || list_any (stands_within from behind) cs ≡ false
    past at r over = grind (arith, nat_tests)

here_or_none : (from behind at : ℕ) (rest : Bool) → from ≤ at → (behind ≤ at + 1 → rest ≡ false)
    → (leb from at && ltb at behind) || rest ≡ ltb at behind
here_or_none from behind at rest l none = grind (arith, nat_tests)

not_here : (from behind at : ℕ) (rest : Bool) → at < from → (leb from at && ltb at behind) || rest ≡ rest
not_here from behind at rest l = grind (arith, nat_tests)

some_place : (n : ℕ) (b : Bool) → ltb 0 (suc n) && b ≡ b
some_place n b = grind (arith, nat_tests)

one_behind : (n m : ℕ) (b : Bool) → ltb (suc n) (suc m) && b ≡ ltb n m && b
one_behind n m b = grind (arith, nat_tests)

pub any_within : (from behind lowest : ℕ) (cs : List AddressCounts) (n : ℕ) (d : AddressCounts) → increase_from lowest cs ≡ true
    → IsPlaceOf from cs n → list_any (stands_within from behind) cs ≡ ltb n (length cs) && ltb (get_or cs n d).address behind
any_within from behind lowest [] n d h p = sym (no_place n)
  where
    no_place : (n : ℕ) → ltb n 0 && ltb d.address behind ≡ false
    no_place n = grind (arith, nat_tests)
any_within from behind lowest (c ∷ cs) zero d h p =
    let f = first_and_rest lowest c cs h in
    here_or_none from behind c.address (list_any (stands_within from behind) cs) (p.higher c (omega arith))
    (none_within from behind (c.address + 1) cs f.1)
    ∙ sym (some_place (length cs) (ltb c.address behind))
any_within from behind lowest (c ∷ cs) (suc n) d h p =
    let b = behind_first from c cs n p in
    not_here from behind c.address (list_any (stands_within from behind) cs) b.0
    ∙ any_within from behind (c.address + 1) cs n d (first_and_rest lowest c cs h).1 b.1
    ∙ sym (one_behind n (length cs) (ltb (get_or cs n d).address behind))
