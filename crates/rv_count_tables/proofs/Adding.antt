-- The first of a sum of counts, in each of the cases.
use Rattle.std.proofs.Common.{◌≡◌, ◌∙◌, ◌==◌, ◌+◌, ◌%◌, ◌^◌, ◌<◌, ◌≤◌, ℕ, zero, suc, Bool, true, false, cond, List, [], ◌∷◌, ◌++◌, length, drop, get_or, refl, sym, ap, subst, append-nil, arith}
use Rattle.std.proofs.lemmas.Bool.{and_from}
use Rattle.std.proofs.lemmas.Bool.Decides.{nat_tests}
use Rattle.std.proofs.lemmas.List.{drop_all}
use Rattle.std.specs.Prelude.{nat_le}
use Rattle.std.specs.List.{AllByRecursion}
use Rattle.rv_count_tables.specs.declared.table.AddressCounts.{AddressCounts}
use Rattle.rv_count_tables.specs.declared.sum.SumError.{SumError}
use Rattle.rv_count_tables.specs.declared.sum.SumError.TheVariants.{OutOfMemory, Count, Node, Runs, Names}
use Rattle.rv_count_tables.specs.Table.{executed_at, taken_at, increase_from, IsValidCount, AreValidCounts}
use Rattle.rv_count_tables.specs.Sum.{IsSumOfCounts, CountsHaveNoSum}
use Rattle.rv_count_tables.specs.SumSteps.{CountsAddUp, IsNextCount}
use Rattle.rv_count_tables.proofs.Told.{low, behind}

-- a list that rises from its first address rises from each lower one
pub raised : (lowest n : ℕ) (c : AddressCounts) (cs : List AddressCounts) → increase_from lowest (c ∷ cs) ≡ true
    → n ≤ c.address → increase_from n (c ∷ cs) ≡ true
unfolding increase_from
raised lowest n c cs h under =
    let t : nat_le n c.address ≡ true = grind (arith, nat_tests) in
    and_from (nat_le n c.address) (increase_from (c.address + 1) cs) t (behind lowest c cs h)

rises : (lowest : ℕ) (c : AddressCounts) (cs : List AddressCounts) → lowest ≤ c.address
    → increase_from (c.address + 1) cs ≡ true → increase_from lowest (c ∷ cs) ≡ true
unfolding increase_from
rises lowest c cs under h =
    let t : nat_le lowest c.address ≡ true = grind (arith, nat_tests) in
    and_from (nat_le lowest c.address) (increase_from (c.address + 1) cs) t h

none_rises : (n : ℕ) → increase_from n [] ≡ true
unfolding increase_from
none_rises n = refl

-- an address of the first list alone
pub first_ahead : (c : AddressCounts) (cs b others : List AddressCounts) → IsValidCount c
    → ((lowest : ℕ) → increase_from lowest b ≡ true → increase_from (c.address + 1) b ≡ true)
    → CountsAddUp cs b others → CountsAddUp (c ∷ cs) b (c ∷ others)
first_ahead c cs b others counted above h = record {
  each = (counted, h.each);
  rising = λ lowest p q. rises lowest c others (low lowest c cs p)
      (h.rising (c.address + 1) (behind lowest c cs p) (above lowest q));
  executed = λ n. let e = h.executed n in omega (arith, e);
  taken = λ n. let e = h.taken n in omega (arith, e);
}

-- an address of the second list alone
pub second_ahead : (c : AddressCounts) (a cs others : List AddressCounts) → IsValidCount c
    → ((lowest : ℕ) → increase_from lowest a ≡ true → increase_from (c.address + 1) a ≡ true)
    → CountsAddUp a cs others → CountsAddUp a (c ∷ cs) (c ∷ others)
second_ahead c a cs others counted above h = record {
  each = (counted, h.each);
  rising = λ lowest p q. rises lowest c others (low lowest c cs q)
      (h.rising (c.address + 1) (above lowest p) (behind lowest c cs q));
  executed = λ n. let e = h.executed n in omega (arith, e);
  taken = λ n. let e = h.taken n in omega (arith, e);
}

-- the sum at one address is the sum of two parts
pub parts : (s t : Bool) (x y z p q r : ℕ) → s ≡ t → z ≡ x + y → r ≡ p + q
    → cond s z 0 + r ≡ (cond s x 0 + p) + (cond t y 0 + q)
parts s true x y z p q r e f g = (ap (λ (u : Bool). cond u z 0 + r) e) ∙ (let k : z + r ≡ (x + p) + (y + q) = omega arith in k)
    ∙ sym (ap (λ (u : Bool). (cond u x 0 + p) + (y + q)) e)
parts s false x y z p q r e f g = (ap (λ (u : Bool). cond u z 0 + r) e) ∙ (let k : 0 + r ≡ (0 + p) + (0 + q) = omega arith in k)
    ∙ sym (ap (λ (u : Bool). (cond u x 0 + p) + (0 + q)) e)

-- an address of both lists
pub both_ahead : (c d sum : AddressCounts) (cs ds others : List AddressCounts) → IsValidCount c → IsValidCount d
    → c.address ≡ d.address → sum.address ≡ c.address → sum.executed ≡ c.executed + d.executed
    → sum.taken ≡ c.taken + d.taken → sum.executed < 2 ^ 64
    → CountsAddUp cs ds others → CountsAddUp (c ∷ cs) (d ∷ ds) (sum ∷ others)
both_ahead c d sum cs ds others counted also one at executed taken fits h = record {
  each = (
    (record {
      address = let k = counted.address in omega arith;
      even = ap (λ (n : ℕ). n % 2) at ∙ counted.even;
      executed = let k = counted.executed in omega arith;
      fits = fits;
      taken = let k = counted.taken in let m = also.taken in omega arith;
    }),
    h.each,
  );
  rising = λ lowest p q.
      rises lowest sum others (let k = low lowest c cs p in omega arith)
      (h.rising (sum.address + 1) (ap (λ (n : ℕ). increase_from (n + 1) cs) at ∙ behind lowest c cs p)
      (ap (λ (n : ℕ). increase_from (n + 1) ds) (at ∙ one) ∙ behind lowest d ds q));
  executed = λ n. ap (λ (k : ℕ). cond (k == n) sum.executed 0 + executed_at n others) at
      ∙ parts (c.address == n) (d.address == n) c.executed d.executed sum.executed _ _ _
      (ap (λ (k : ℕ). k == n) one) executed (h.executed n);
  taken = λ n. ap (λ (k : ℕ). cond (k == n) sum.taken 0 + taken_at n others) at
      ∙ parts (c.address == n) (d.address == n) c.taken d.taken sum.taken _ _ _
      (ap (λ (k : ℕ). k == n) one) taken (h.taken n);
}

-- ---- the first of a sum in each case of `next_count`

pub of_first_alone : (a b : List AddressCounts) (d : AddressCounts) → AllByRecursion IsValidCount a → 0 < length a
    → length b ≡ 0 → IsNextCount a b (record { sum = get_or a 0 d; count_in_a = 1; count_in_b = 0 })
of_first_alone [] b d each some none = absurd (omega arith)
of_first_alone (x ∷ xs) (y ∷ ys) d each some none = absurd (omega arith)
of_first_alone (x ∷ xs) [] d each some none = record {
  count_in_a = omega arith;
  count_in_b = omega arith;
  some = omega arith;
  ahead = λ others h. first_ahead x xs [] others each.0 (λ n p. none_rises (x.address + 1)) h;
}

pub of_second_alone : (a b : List AddressCounts) (d : AddressCounts) → AllByRecursion IsValidCount b → 0 < length b
    → length a ≡ 0 → IsNextCount a b (record { sum = get_or b 0 d; count_in_a = 0; count_in_b = 1 })
of_second_alone a [] d each some none = absurd (omega arith)
of_second_alone (x ∷ xs) (y ∷ ys) d each some none = absurd (omega arith)
of_second_alone [] (y ∷ ys) d each some none = record {
  count_in_a = omega arith;
  count_in_b = omega arith;
  some = omega arith;
  ahead = λ others h. second_ahead y [] ys others each.0 (λ n p. none_rises (y.address + 1)) h;
}

pub node_of_first : (a b : List AddressCounts) (d : AddressCounts) → AllByRecursion IsValidCount a → 0 < length a
    → 0 < length b → (get_or a 0 d).address < (get_or b 0 d).address
    → IsNextCount a b (record { sum = get_or a 0 d; count_in_a = 1; count_in_b = 0 })
node_of_first [] b d each some other less = absurd (omega arith)
node_of_first (x ∷ xs) [] d each some other less = absurd (omega arith)
node_of_first (x ∷ xs) (y ∷ ys) d each some other less = record {
  count_in_a = omega arith;
  count_in_b = omega arith;
  some = omega arith;
  ahead = λ others h. first_ahead x xs (y ∷ ys) others each.0 (λ n p. raised n (x.address + 1) y ys p (omega arith)) h;
}

pub node_of_second : (a b : List AddressCounts) (d : AddressCounts) → AllByRecursion IsValidCount b → 0 < length a
    → 0 < length b → (get_or b 0 d).address < (get_or a 0 d).address
    → IsNextCount a b (record { sum = get_or b 0 d; count_in_a = 0; count_in_b = 1 })
node_of_second [] b d each some other less = absurd (omega arith)
node_of_second (x ∷ xs) [] d each some other less = absurd (omega arith)
node_of_second (x ∷ xs) (y ∷ ys) d each some other less = record {
  count_in_a = omega arith;
  count_in_b = omega arith;
  some = omega arith;
  ahead = λ others h. second_ahead y (x ∷ xs) ys others each.0 (λ n p. raised n (y.address + 1) x xs p (omega arith)) h;
}

pub of_both : (a b : List AddressCounts) (d sum : AddressCounts) → AllByRecursion IsValidCount a → AllByRecursion IsValidCount b
    → 0 < length a → 0 < length b → (get_or a 0 d).address ≡ (get_or b 0 d).address
    → sum.address ≡ (get_or a 0 d).address → sum.executed ≡ (get_or a 0 d).executed + (get_or b 0 d).executed
    → sum.taken ≡ (get_or a 0 d).taken + (get_or b 0 d).taken → sum.executed < 2 ^ 64
    → IsNextCount a b (record { sum = sum; count_in_a = 1; count_in_b = 1 })
of_both [] b d sum each also some other same address executed taken fits = absurd (omega arith)
of_both (x ∷ xs) [] d sum each also some other same address executed taken fits = absurd (omega arith)
of_both (x ∷ xs) (y ∷ ys) d sum each also some other same address executed taken fits = record {
  count_in_a = omega arith;
  count_in_b = omega arith;
  some = omega arith;
  ahead = λ others h. both_ahead x y sum xs ys others each.0 also.0 same address executed taken fits h;
}

-- ---- the loop: what both lists have ahead

pub all_behind : (n : ℕ) (cs : List AddressCounts) → AllByRecursion IsValidCount cs → AllByRecursion IsValidCount (drop n cs)
all_behind zero cs h = h
all_behind (suc n) [] h = h
all_behind (suc n) (c ∷ cs) h = all_behind n cs h.1

-- no list has less than what is left of it
pub some_left : (n address : ℕ) (cs : List AddressCounts) → executed_at address (drop n cs) ≤ executed_at address cs
some_left zero address cs = omega arith
some_left (suc n) address [] = omega arith
some_left (suc n) address (c ∷ cs) = let h = some_left n address cs in omega (arith, h)

pub too_great_behind : (n m : ℕ) (a b : List AddressCounts) (error : SumError)
    → CountsHaveNoSum error (drop n a) (drop m b) → CountsHaveNoSum error a b
too_great_behind n m a b OutOfMemory h = tt
too_great_behind n m a b (Count address) h =
    let p = some_left n address a in let q = some_left m address b in omega (arith, h, p, q)
too_great_behind n m a b (Node function) h = h
too_great_behind n m a b Runs h = h
too_great_behind n m a b (Names function) h = h

-- nothing and nothing is nothing
pub none_adds_up : CountsAddUp [] [] []
none_adds_up = record {
  each = tt;
  rising = λ lowest p q. p;
  executed = λ address. refl;
  taken = λ address. refl;
}

-- at the end what stands there is the sum
pub summed : (a b sums : List AddressCounts) (n m : ℕ) → AreValidCounts a → AreValidCounts b → length a ≤ n → length b ≤ m
    → ((others : List AddressCounts) → CountsAddUp (drop n a) (drop m b) others → CountsAddUp a b (sums ++ others))
    → IsSumOfCounts a b sums
summed a b sums n m x y p q ahead =
    let e = drop_all n a p in
    let f = drop_all m b q in
    let none : CountsAddUp (drop n a) (drop m b) [] =
    subst (λ (s : List AddressCounts). CountsAddUp s (drop m b) []) (sym e)
    (subst (λ (s : List AddressCounts). CountsAddUp [] s []) (sym f) none_adds_up) in
    let all : CountsAddUp a b sums = subst (λ (s : List AddressCounts). CountsAddUp a b s) (append-nil sums) (ahead [] none) in record {
      counts = record { each = all.each; rising = all.rising 0 x.rising y.rising };
      executed = all.executed;
      taken = all.taken;
    }
