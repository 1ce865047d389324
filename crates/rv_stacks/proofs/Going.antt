-- Going on in a function in place of the last.
use Rattle.std.proofs.Common.{◌≡◌, ◌∙◌, ◌==◌, ◌+◌, ◌<◌, ◌&&◌, ℕ, Bool, true, false, not, [], ◌∷◌, ◌++◌, length, take, get_or, sym, ap, arith, inl, inr}
use Rattle.std.proofs.lemmas.Bool.{cases_Bool}
use Rattle.std.proofs.lemmas.Bool.Decides.{nat_tests}
use Rattle.std.proofs.lemmas.List.{get_or_default, take_more}
use Rattle.std.specs.Str.{bytes_eq}
use Rattle.rv_counting.specs.Coverage.{address_if}
use Rattle.rv_stacks.specs.declared.walk.Walk.{Walk}
use Rattle.rv_stacks.specs.Nodes.{all_calls, all_steps, calls_at, own_steps_of, steps_at}
use Rattle.rv_stacks.specs.Walks.{Enters, ReturnsTo}
use Rattle.rv_stacks.specs.StackSteps.{ContinuesIn}

equal_test : (x y : ℕ) → x ≡ y → (x == y) ≡ true
equal_test x y h = grind (arith, nat_tests)

equal_by : (x y : ℕ) → (x == y) ≡ true → x ≡ y
equal_by x y h = grind (arith, nat_tests)

unequal_test : (x y : ℕ) → (x ≡ y → ⊥) → (x == y) ≡ false
unequal_test x y h = elim (cases_Bool (x == y)) [
  | inl same ↦ absurd (h (equal_by x y same))
  | inr apart ↦ apart
]

module _ (old new : Walk) (depth function x : ℕ) (within : depth < length old.path.items)
    (is : x ≡ get_or old.path.items depth x) where
  at_depth : get_or old.path.items depth 0 ≡ x
  at_depth = get_or_default old.path.items depth 0 x within ∙ sym is

  pub goes_on_there : x ≡ function → ReturnsTo (depth + 1) old new → ContinuesIn depth function old new
  goes_on_there same back =
      let path : new.path.items ≡ take depth old.path.items ++ function ∷ [] =
      back.path ∙ take_more old.path.items depth x within
      ∙ ap (λ (f : ℕ). take depth old.path.items ++ f ∷ []) (sym is ∙ same) in
      let test : (get_or old.path.items depth 0 == function) ≡ true = equal_test (get_or old.path.items depth 0) function (at_depth ∙ same) in
      record {
        walk = back.walk;
        path = path;
        calls = λ at.
            let moved = ap (calls_at at) back.nodes in
            let none = ap (λ (b : Bool). address_if (not b && bytes_eq (take depth old.path.items ++ function ∷ []) at)) test in
            omega (arith, moved, none);
        steps = λ at. ap (steps_at at) back.nodes;
        own = λ f. ap (own_steps_of f) back.nodes;
        few = (let moved = ap all_calls back.nodes in omega (arith, moved));
        all_steps = ap all_steps back.nodes;
      }

  pub goes_elsewhere : (x ≡ function → ⊥) → Enters (take depth old.path.items ++ function ∷ []) old new
      → ContinuesIn depth function old new
  goes_elsewhere other arrives =
      let test : (get_or old.path.items depth 0 == function) ≡ false =
      unequal_test (get_or old.path.items depth 0) function (λ e. other (sym at_depth ∙ e)) in record {
        walk = arrives.walk;
        path = arrives.path;
        calls = λ at.
            let more = arrives.calls at in
            let once = ap (λ (b : Bool). address_if (not b && bytes_eq (take depth old.path.items ++ function ∷ []) at)) test in
            omega (arith, more, once);
        steps = arrives.steps;
        own = arrives.own;
        few = (let more = arrives.all_calls in omega (arith, more));
        all_steps = arrives.all_steps;
      }
