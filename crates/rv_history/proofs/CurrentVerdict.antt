-- Lists of states that are kept.
use Rattle.std.proofs.Common.{◌≡◌, ◌-◌, ◌<◌, ◌≤◌, ℕ, Bool, true, false, List, ap, arith, get_or, inl, inr, length, ltb, subst, sym, take}
use Rattle.std.specs.Prelude.{if◌then◌else◌}
use Rattle.std.specs.List.{All, filter, insert}
use Rattle.std.specs.List.Retain.{IsFiltered}
use Rattle.std.proofs.lemmas.Fn.{filter_same}
use Rattle.std.proofs.lemmas.Bool.{cases_eq, cases_lt, ltb-true}
use Rattle.std.proofs.lemmas.List.{get_or-take, get_or_default, length-take}
use Rattle.std.proofs.lemmas.List.Elements.{All-cons, All-filter, All-same, All-take, All-weaker, filter_passes}
use Rattle.std.proofs.lemmas.List.Kept.{AllPairs-cons, AllPairs-filter}
use Rattle.rv_history.specs.declared.machine_at.MachineAt.{MachineAt}
use Rattle.rv_history.specs.StoredStates.{AreDecreasing, IsLastUpTo}

-- what is kept of a list is as all of it is
pub all_filtered : {X F : Type 0} (R : F → X → Bool → F → Type 0) (test : X → Bool) (f : F)
    → ((x : X) (b : Bool) (g : F) → R f x b g → (b ≡ test x) × (g ≡ f)) → (P : X → Type 0) (xs ys : List X)
    → IsFiltered R f xs ys → All P xs → All P ys
all_filtered R test f same P xs ys filtered all =
    All-same P ys (filter test xs) (filter_same R test f same xs ys filtered) (All-filter test P xs all)

-- one more in front, if there was memory for it
pub all_inserted : {X : Type 0} (P : X → Type 0) (done : Bool) (x : X) (xs : List X) → All P xs → P x
    → All P (if done then insert xs 0 x else xs)
all_inserted P true x xs all is = All-cons P x xs is all
all_inserted P false x xs all is = all

-- ---- falling places

pub falling_some : {F : Type 0} (R : F → MachineAt → Bool → F → Type 0) (test : MachineAt → Bool) (f : F)
    → ((x : MachineAt) (b : Bool) (g : F) → R f x b g → (b ≡ test x) × (g ≡ f)) → (xs ys : List MachineAt)
    → IsFiltered R f xs ys → AreDecreasing xs → AreDecreasing ys
falling_some R test f same xs ys filtered falling =
    subst AreDecreasing (sym (filter_same R test f same xs ys filtered))
    (AllPairs-filter (λ one other. other.step < one.step) test xs falling)

pub falling_first : (n : ℕ) (xs : List MachineAt) → AreDecreasing xs → AreDecreasing (take n xs)
falling_first n xs falling i j d order within =
    let few = length-take n xs in
    let near : j < n = omega (arith, few, within) in
    let far : j < length xs = omega (arith, few, within) in
    rw (get_or-take n xs i d (omega (arith, order, near))) (rw (get_or-take n xs j d near) (falling i j d order far))

-- what passes such a test is before a place
pub before_place : {F : Type 0} (R : F → MachineAt → Bool → F → Type 0) (f : F) (step : ℕ)
    → ((x : MachineAt) (b : Bool) (g : F) → R f x b g → (b ≡ ltb x.step step) × (g ≡ f)) → (xs ys : List MachineAt)
    → IsFiltered R f xs ys → All (λ (x : MachineAt). x.step < step) ys
before_place R f step same xs ys filtered =
    let test : MachineAt → Bool = λ x. ltb x.step step in
    All-same (λ (x : MachineAt). x.step < step) ys (filter test xs) (filter_same R test f same xs ys filtered)
    (All-weaker (λ x. test x ≡ true) (λ (x : MachineAt). x.step < step) (λ x is. ltb-true x.step step is) (filter test xs)
    (filter_passes test xs))

pub falling_inserted : (done : Bool) (at : MachineAt) (xs : List MachineAt) → AreDecreasing xs
    → All (λ (x : MachineAt). x.step < at.step) xs → AreDecreasing (if done then insert xs 0 at else xs)
falling_inserted true at xs falling before = AllPairs-cons (λ one other. other.step < one.step) at xs before falling
falling_inserted false at xs falling before = falling

-- the first of falling places up to one is the last of them
pub last_is_first : (xs : List MachineAt) (i step : ℕ) (d : MachineAt) → AreDecreasing xs → i < length xs
    → All (λ (other : MachineAt). step < other.step) (take i xs) → IsLastUpTo xs step (get_or xs i d).step
last_is_first xs i step d falling within later k e far up =
    elim (cases_lt k i) [
      | inl before ↦
          let taken = length-take i xs in
          let high = later k e (omega (arith, taken, before, far)) in
          let same = ap (λ (at : MachineAt). at.step) (get_or-take i xs k e before) in
          absurd (omega (arith, high, same, up))
      | inr behind ↦
          let same = ap (λ (at : MachineAt). at.step) (get_or_default xs i d e within) in
          elim (cases_eq k i) [
            | inl here ↦
                let there = ap (λ n. (get_or xs n e).step) here in
                omega (arith, same, there)
            | inr other ↦
                let falls = falling i k e (omega arith) far in
                omega (arith, same, falls)
          ]
    ]

few_inserted : (done : Bool) (at : MachineAt) (most : ℕ) (xs : List MachineAt) → 0 < most
    → length (if done then insert (take (most - 1) xs) 0 at else take (most - 1) xs) ≤ most
few_inserted true at most xs some = let few = length-take (most - 1) xs in omega (arith, few, some)
few_inserted false at most xs some = let few = length-take (most - 1) xs in omega (arith, few, some)

-- with one more in front of the first of them, they are not too many, and fall
pub kept_falling : (most : ℕ) (at : MachineAt) (done : Bool) (some first items : List MachineAt) → 0 < most
    → first ≡ take (most - 1) some → items ≡ (if done then insert first 0 at else first) → AreDecreasing some
    → All (λ (x : MachineAt). x.step < at.step) some → (length items ≤ most) × AreDecreasing items
kept_falling most at done some first items room few is falling before =
    let Kept : List MachineAt → Type 0 = λ list. (length list ≤ most) × AreDecreasing list in
    subst Kept (sym is) (subst (λ list. Kept (if done then insert list 0 at else list)) (sym few) (
      few_inserted done at most some room,
      falling_inserted done at (take (most - 1) some) (falling_first (most - 1) some falling)
          (All-take (λ (x : MachineAt). x.step < at.step) (most - 1) some before),
    ))
