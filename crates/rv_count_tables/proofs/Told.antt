-- Lists of counts are told apart by the numbers at their addresses.
use Rattle.std.proofs.Common.{◌≡◌, ◌∙◌, ◌==◌, ◌+◌, ◌<◌, ◌≤◌, ℕ, Bool, true, false, cond, List, [], ◌∷◌, refl, sym, ap, arith}
use Rattle.std.proofs.lemmas.Bool.{and_parts}
use Rattle.std.proofs.lemmas.Bool.Decides.{nat_tests}
use Rattle.std.specs.Prelude.{◌&&◌, nat_le}
use Rattle.std.specs.List.{AllByRecursion}
use Rattle.rv_count_tables.specs.declared.table.AddressCounts.{AddressCounts}
use Rattle.rv_count_tables.specs.Table.{executed_at, taken_at, increase_from, IsValidCount, AreValidCounts}
use Rattle.rv_count_tables.specs.Sum.{IsSumOfCounts}

pub here : (a : ℕ) → (a == a) ≡ true
here a = grind (arith, nat_tests)

pub elsewhere : (a b : ℕ) → a < b → (b == a) ≡ false
elsewhere a b h = grind (arith, nat_tests)

pub picked : (t : Bool) (n m : ℕ) → t ≡ true → cond t n 0 + m ≡ n + m
picked t n m h = ap (λ (s : Bool). cond s n 0 + m) h

pub passed : (t : Bool) (n m : ℕ) → t ≡ false → cond t n 0 + m ≡ m
passed t n m h = ap (λ (s : Bool). cond s n 0 + m) h ∙ omega arith

-- the lowest address, and the rest rises behind it
pub low : (lowest : ℕ) (c : AddressCounts) (cs : List AddressCounts) → increase_from lowest (c ∷ cs) ≡ true → lowest ≤ c.address
unfolding increase_from
low lowest c cs h = let p = (and_parts (nat_le lowest c.address) (increase_from (c.address + 1) cs) h).0 in grind (arith, nat_tests)

pub behind : (lowest : ℕ) (c : AddressCounts) (cs : List AddressCounts) → increase_from lowest (c ∷ cs) ≡ true
    → increase_from (c.address + 1) cs ≡ true
unfolding increase_from
behind lowest c cs h = (and_parts (nat_le lowest c.address) (increase_from (c.address + 1) cs) h).1

-- below its lowest address a list has nothing
pub none_below : (cs : List AddressCounts) (lowest address : ℕ) → increase_from lowest cs ≡ true → address < lowest
    → executed_at address cs ≡ 0
none_below [] lowest address h under = refl
none_below (c ∷ cs) lowest address h under =
    let l = low lowest c cs h in
    passed (c.address == address) c.executed (executed_at address cs) (elsewhere address c.address (omega arith))
    ∙ none_below cs (c.address + 1) address (behind lowest c cs h) (omega arith)

pub untaken_below : (cs : List AddressCounts) (lowest address : ℕ) → increase_from lowest cs ≡ true → address < lowest
    → taken_at address cs ≡ 0
untaken_below [] lowest address h under = refl
untaken_below (c ∷ cs) lowest address h under =
    let l = low lowest c cs h in
    passed (c.address == address) c.taken (taken_at address cs) (elsewhere address c.address (omega arith))
    ∙ untaken_below cs (c.address + 1) address (behind lowest c cs h) (omega arith)

-- at its first address a list has the first entry's numbers
pub first_begun : (lowest : ℕ) (c : AddressCounts) (cs : List AddressCounts) → increase_from lowest (c ∷ cs) ≡ true
    → executed_at c.address (c ∷ cs) ≡ c.executed
first_begun lowest c cs h =
    let rest = none_below cs (c.address + 1) c.address (behind lowest c cs h) (omega arith) in
    picked (c.address == c.address) c.executed (executed_at c.address cs) (here c.address) ∙ omega arith

pub first_taken : (lowest : ℕ) (c : AddressCounts) (cs : List AddressCounts) → increase_from lowest (c ∷ cs) ≡ true
    → taken_at c.address (c ∷ cs) ≡ c.taken
first_taken lowest c cs h =
    let rest = untaken_below cs (c.address + 1) c.address (behind lowest c cs h) (omega arith) in
    picked (c.address == c.address) c.taken (taken_at c.address cs) (here c.address) ∙ omega arith

-- a list rises from its first address
pub from_own : (k : ℕ) (e : AddressCounts) (es : List AddressCounts) → increase_from k (e ∷ es) ≡ true
    → increase_from e.address (e ∷ es) ≡ true
unfolding increase_from
from_own k e es h =
    let rest = (and_parts (nat_le k e.address) (increase_from (e.address + 1) es) h).1 in
    let n : nat_le e.address e.address ≡ true = grind (arith, nat_tests) in
    ap (λ (t : Bool). t && increase_from (e.address + 1) es) n ∙ rest

-- lists with the same numbers begin at one address
pub one_address : (c d : AddressCounts) (cs ds : List AddressCounts) (l m : ℕ) → increase_from l (c ∷ cs) ≡ true
    → increase_from m (d ∷ ds) ≡ true → 0 < c.executed → 0 < d.executed
    → executed_at c.address (c ∷ cs) ≡ executed_at c.address (d ∷ ds)
    → executed_at d.address (c ∷ cs) ≡ executed_at d.address (d ∷ ds) → c.address ≡ d.address
one_address c d cs ds l m rc rd pc pd at_c at_d =
    let fc = first_begun l c cs rc in
    let fd = first_begun m d ds rd in
    let not_less : c.address < d.address → ⊥ = λ h.
    let z = none_below (d ∷ ds) d.address c.address (from_own m d ds rd) h in
    let some : 0 < executed_at c.address (c ∷ cs) = omega (arith, fc) in omega (arith, z, at_c, some) in
    let not_more : d.address < c.address → ⊥ = λ h.
    let z = none_below (c ∷ cs) c.address d.address (from_own l c cs rc) h in
    let some : 0 < executed_at d.address (d ∷ ds) = omega (arith, fd) in omega (arith, z, at_d, some) in
    omega (arith, not_less, not_more)

-- an entry is its three numbers
pub same_entry : (c d : AddressCounts) → c.address ≡ d.address → c.executed ≡ d.executed → c.taken ≡ d.taken → c ≡ d
same_entry c d a b t = λ i. record { address = a i; executed = b i; taken = t i }

-- what is left where the first of two sums is the same
pub left_over : (n m p q : ℕ) → n ≡ m → n + p ≡ m + q → p ≡ q
left_over n m p q e h = omega arith

-- lists with the same numbers at each address are one
pub one_list : (xs ys : List AddressCounts) (l m : ℕ) → AllByRecursion IsValidCount xs → AllByRecursion IsValidCount ys
    → increase_from l xs ≡ true → increase_from m ys ≡ true
    → ((address : ℕ) → executed_at address xs ≡ executed_at address ys)
    → ((address : ℕ) → taken_at address xs ≡ taken_at address ys) → xs ≡ ys
one_list [] [] l m px py rx ry executed taken = refl
one_list [] (d ∷ ds) l m px py rx ry executed taken =
    let f = first_begun m d ds ry in
    let p = py.0.executed in
    let e = executed d.address in
    let z : d.executed ≡ 0 = sym f ∙ sym e in
    absurd (omega (arith, z, p))
one_list (c ∷ cs) [] l m px py rx ry executed taken =
    let f = first_begun l c cs rx in
    let p = px.0.executed in
    let e = executed c.address in
    let z : c.executed ≡ 0 = sym f ∙ e in
    absurd (omega (arith, z, p))
one_list (c ∷ cs) (d ∷ ds) l m px py rx ry executed taken =
    let a = one_address c d cs ds l m rx ry px.0.executed py.0.executed (executed c.address) (executed d.address) in
    let b : c.executed ≡ d.executed = sym (first_begun l c cs rx) ∙ executed c.address
    ∙ (λ i. executed_at (a i) (d ∷ ds)) ∙ first_begun m d ds ry in
    let t : c.taken ≡ d.taken = sym (first_taken l c cs rx) ∙ taken c.address
    ∙ (λ i. taken_at (a i) (d ∷ ds)) ∙ first_taken m d ds ry in
    let rest = one_list cs ds (c.address + 1) (d.address + 1) px.1 py.1 (behind l c cs rx) (behind m d ds ry)
    (λ address. left_over (cond (c.address == address) c.executed 0) (cond (d.address == address) d.executed 0) _ _
    (λ i. cond (a i == address) (b i) 0) (executed address))
    (λ address. left_over (cond (c.address == address) c.taken 0) (cond (d.address == address) d.taken 0) _ _
    (λ i. cond (a i == address) (t i) 0) (taken address)) in
    λ i. same_entry c d a b t i ∷ rest i

pub one_of : (xs ys : List AddressCounts) → AreValidCounts xs → AreValidCounts ys
    → ((address : ℕ) → executed_at address xs ≡ executed_at address ys)
    → ((address : ℕ) → taken_at address xs ≡ taken_at address ys) → xs ≡ ys
one_of xs ys x y executed taken = one_list xs ys 0 0 x.each y.each x.rising y.rising executed taken

pub either_order : (x y a b : ℕ) → x ≡ a + b → y ≡ b + a → x ≡ y
either_order x y a b p q = omega arith

pub either_first : (ab bc x y a b c : ℕ) → ab ≡ a + b → x ≡ ab + c → bc ≡ b + c → y ≡ a + bc → x ≡ y
either_first ab bc x y a b c p q r s = omega arith

pub commute : (a b ab ba : List AddressCounts) → IsSumOfCounts a b ab → IsSumOfCounts b a ba → ab ≡ ba
commute a b ab ba p q = one_of ab ba p.counts q.counts
    (λ n. either_order _ _ (executed_at n a) (executed_at n b) (p.executed n) (q.executed n))
    (λ n. either_order _ _ (taken_at n a) (taken_at n b) (p.taken n) (q.taken n))

pub associate : (a b c ab bc first last : List AddressCounts) → IsSumOfCounts a b ab → IsSumOfCounts ab c first
    → IsSumOfCounts b c bc → IsSumOfCounts a bc last → first ≡ last
associate a b c ab bc first last p q r s = one_of first last q.counts s.counts
    (λ n. either_first (executed_at n ab) (executed_at n bc) _ _ (executed_at n a) (executed_at n b) (executed_at n c)
    (p.executed n) (q.executed n) (r.executed n) (s.executed n))
    (λ n. either_first (taken_at n ab) (taken_at n bc) _ _ (taken_at n a) (taken_at n b) (taken_at n c)
    (p.taken n) (q.taken n) (r.taken n) (s.taken n))
