-- Each function of spots once, and the sum of their steps.
use Rattle.std.proofs.Common.{◌≡◌, ◌∙◌, ◌==◌, ◌+◌, ◌<◌, ◌||◌, ℕ, zero, suc, Bool, true, false, cond, List, [], ◌∷◌, ◌++◌, length, take, get_or, refl, sym, ap, subst, arith, inl, inr}
use Rattle.std.proofs.lemmas.Bool.{false≢true, or_cases, or_parts}
use Rattle.std.proofs.lemmas.List.{take_more}
use Rattle.std.specs.List.{AllByRecursion}
use Rattle.rv_call_tree.specs.declared.call_node.CallNode.{CallNode}
use Rattle.rv_call_tree.specs.Profiles.{has_function, ends_some_path, own_steps_of_all, times, with_function, AreFunctionsOf}
use Rattle.rv_call_tree.specs.Trees.{all_steps, one_if, steps_if}
use Rattle.rv_call_tree.proofs.Tests.{equal_by, equal_test, turned}

-- ---- the sum

-- a number so many times
abbrev scaled : ℕ → ℕ → ℕ
scaled zero n = 0
scaled (suc k) n = n + scaled k n

more_times : (b : Bool) (m n : ℕ) → cond b n 0 + scaled m n ≡ scaled (cond b 1 0 + m) n
more_times true m n = let one : suc m ≡ 1 + m = omega arith in ap (λ (k : ℕ). scaled k n) one
more_times false m n =
    let none : m ≡ 0 + m = omega arith in
    let same = ap (λ (k : ℕ). scaled k n) none in
    omega (arith, same)

one_spot_more : (fs : List ℕ) (s : CallNode) (ss : List CallNode)
    → own_steps_of_all fs (s ∷ ss) ≡ scaled (times s.function fs) s.steps + own_steps_of_all fs ss
one_spot_more [] s ss = refl
one_spot_more (f ∷ fs) s ss =
    let rest = one_spot_more fs s ss in
    let here = more_times (f == s.function) (times s.function fs) s.steps in
    let same = ap (λ (b : Bool). steps_if b s.steps) (turned s.function f) in
    omega (arith, rest, here, same)

none_of_all : (fs : List ℕ) → own_steps_of_all fs [] ≡ 0
none_of_all [] = refl
none_of_all (f ∷ fs) = let h = none_of_all fs in omega (arith, h)

summed : (fs : List ℕ) (nodes : List CallNode) → AllByRecursion (λ (s : CallNode). times s.function fs ≡ 1) nodes
    → own_steps_of_all fs nodes ≡ all_steps nodes
summed fs [] h = none_of_all fs
summed fs (s ∷ ss) h =
    let rest = summed fs ss h.1 in
    let more = one_spot_more fs s ss in
    let once = ap (λ (n : ℕ). scaled n s.steps) h.0 in
    omega (arith, rest, more, once)

-- each spot's function is that of some spot
or_second : (a b : Bool) → b ≡ true → (a || b) ≡ true
or_second true b h = refl
or_second false b h = h

or_first : (a b : Bool) → a ≡ true → (a || b) ≡ true
or_first a b h = ap (λ (t : Bool). t || b) h

same_test : (x : ℕ) → (x == x) ≡ true
same_test x = equal_test x x refl

each_once : (fs : List ℕ) (all some : List CallNode)
    → ((f : ℕ) → times f fs ≡ one_if (ends_some_path f all))
    → ((f : ℕ) → ends_some_path f some ≡ true → ends_some_path f all ≡ true)
    → AllByRecursion (λ (s : CallNode). times s.function fs ≡ 1) some
each_once fs all [] h within = tt
each_once fs all (s ∷ ss) h within = (
  h s.function ∙ ap one_if (within s.function (or_first (s.function == s.function) (ends_some_path s.function ss) (same_test s.function))),
  each_once fs all ss h (λ f there. within f (or_second (s.function == f) (ends_some_path f ss) there)),
)

pub own_sums : (nodes : List CallNode) (functions : List ℕ) → AreFunctionsOf nodes functions
    → own_steps_of_all functions nodes ≡ all_steps nodes
own_sums nodes functions h = summed functions nodes (each_once functions nodes nodes h.once (λ f there. there))

-- ---- one function more

or_moved : (a b c d : Bool) → d ≡ (b || c) → (a || d) ≡ ((a || b) || c)
or_moved true b c d h = refl
or_moved false b c d h = h

or_none : (b : Bool) → (b || false) ≡ (false || b)
or_none true = refl
or_none false = refl

or_none_behind : (b : Bool) → (b || false) ≡ b
or_none_behind true = refl
or_none_behind false = refl

times_more : (f : ℕ) (xs ys : List ℕ) → times f (xs ++ ys) ≡ times f xs + times f ys
times_more f [] ys = omega arith
times_more f (x ∷ xs) ys = let h = times_more f xs ys in omega (arith, h)

any_more : (f : ℕ) (xs : List CallNode) (s : CallNode) → ends_some_path f (xs ++ s ∷ []) ≡ (ends_some_path f xs || (s.function == f))
any_more f [] s = or_none (s.function == f)
any_more f (x ∷ xs) s = or_moved (x.function == f) (ends_some_path f xs) (s.function == f) (ends_some_path f (xs ++ s ∷ [])) (any_more f xs s)

-- a list has what stands in it
has_times : (f : ℕ) (fs : List ℕ) → has_function f fs ≡ false → times f fs ≡ 0
has_times f [] h = refl
has_times f (x ∷ xs) h =
    let p = or_parts (x == f) (has_function f xs) h in
    let rest = has_times f xs p.1 in
    let here = ap one_if p.0 in
    omega (arith, rest, here)

times_has : (f : ℕ) (fs : List ℕ) → has_function f fs ≡ true → 0 < times f fs
times_has f [] h = absurd (false≢true h)
times_has f (x ∷ xs) h = elim (or_cases (x == f) (has_function f xs) h) [
  | inl here ↦ let one = ap one_if here in omega (arith, one)
  | inr there ↦ let rest = times_has f xs there in omega (arith, rest)
]

once_true : (b : Bool) → 0 < one_if b → b ≡ true
once_true true h = refl
once_true false h = absurd (omega arith)

once_false : (b : Bool) → one_if b ≡ 0 → b ≡ false
once_false true h = absurd (omega (arith, h))
once_false false h = refl

-- a function that is there is of some spot, so another spot of it changes nothing
there_already : (f g : ℕ) (before : Bool) (test : Bool) → (g == f) ≡ test → (g ≡ f → before ≡ true)
    → one_if (before || (g == f)) ≡ one_if before
there_already f g before true is seen =
    let same = equal_by g f is in
    let was = seen same in
    ap one_if (or_first before (g == f) was ∙ sym was)
there_already f g before false is seen = ap one_if (ap (λ (b : Bool). before || b) is ∙ or_none_behind before)

new_there : (f g : ℕ) (before : Bool) (test : Bool) → (g == f) ≡ test → (g ≡ f → before ≡ false)
    → one_if (before || (g == f)) ≡ one_if before + one_if (g == f)
new_there f g before true is unseen =
    let same = equal_by g f is in
    let was = unseen same in
    let left = ap one_if (ap (λ (b : Bool). b || (g == f)) was ∙ is) in
    let right = ap one_if was in
    let one = ap one_if is in
    omega (arith, left, right, one)
new_there f g before false is unseen =
    let left = ap one_if (ap (λ (b : Bool). before || b) is ∙ or_none_behind before) in
    let none = ap one_if is in
    omega (arith, left, none)

-- one spot more
with_node : (fs : List ℕ) (xs : List CallNode) (s : CallNode) (there : Bool) → has_function s.function fs ≡ there
    → AreFunctionsOf xs fs → AreFunctionsOf (xs ++ s ∷ []) (cond there fs (fs ++ s.function ∷ []))
with_node fs xs s true is h = record {
  once = λ f.
      let seen : s.function ≡ f → ends_some_path f xs ≡ true = λ same.
      let some = times_has s.function fs is in
      let so = h.once s.function in
      subst (λ (g : ℕ). ends_some_path g xs ≡ true) same (once_true (ends_some_path s.function xs) (omega (arith, some, so))) in
      h.once f ∙ sym (ap one_if (any_more f xs s) ∙ there_already f s.function (ends_some_path f xs) (s.function == f) refl seen);
}
with_node fs xs s false is h = record {
  once = λ f.
      let unseen : s.function ≡ f → ends_some_path f xs ≡ false = λ same.
      let none = has_times s.function fs is in
      subst (λ (g : ℕ). ends_some_path g xs ≡ false) same (once_false (ends_some_path s.function xs) (sym (h.once s.function) ∙ none)) in
      let more = times_more f fs (s.function ∷ []) in
      let so = h.once f in
      let new = ap one_if (any_more f xs s) ∙ new_there f s.function (ends_some_path f xs) (s.function == f) refl unseen in
      omega (arith, more, so, new);
}

pub next_functions : (nodes : List CallNode) (fs : List ℕ) (k : ℕ) (d : CallNode) → k < length nodes → AreFunctionsOf (take k nodes) fs
    → AreFunctionsOf (take (k + 1) nodes) (with_function (get_or nodes k d).function fs)
next_functions nodes fs k d within h =
    subst (λ (zs : List CallNode). AreFunctionsOf zs (with_function (get_or nodes k d).function fs)) (sym (take_more nodes k d within))
    (with_node fs (take k nodes) (get_or nodes k d) (has_function (get_or nodes k d).function fs) refl h)

pub no_functions : AreFunctionsOf [] []
no_functions = record { once = λ f. refl }
