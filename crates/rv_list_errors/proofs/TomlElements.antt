-- The items of an array and the elements that they are of, one by one.
use Rattle.std.proofs.Common.{◌≡◌, ◌<◌, ◌≤◌, arith, get_or, length, IfSome, Bool, ℕ, zero, suc, List, [], ◌∷◌, Option, Some, None, ap, refl, ◌&&◌}
use Rattle.std.specs.Prelude.{MatchOption, option_map, ⊤}
use Rattle.std.specs.Borrow.{Bor}
use Rattle.std.specs.List.{list_all}
use Rattle.toml.specs.Data.{Data, Items, array, as_array, string, integer, float, boolean, datetime, table}
use Rattle.toml.specs.declared.value.Value.{Value}
use Rattle.toml.specs.View.{items_view, view}
use Rattle.rv_lists.specs.Keys.{all_items}
use Rattle.rv_list_errors.specs.JobFaults.{element_at}

pub all_elements : (p : Data → Bool) (vs : List Value) → list_all (λ v. p (view v)) vs ≡ all_items p (items_view vs)
unfolding all_items
all_elements p [] = refl
all_elements p (v ∷ vs) = ap (λ b. p (view v) && b) (all_elements p vs)

pub is_array_of : (d : Data) (ds : Items) → Some ds ≡ as_array d → d ≡ array ds
is_array_of (array es) ds e = cc
is_array_of (string x) ds e = cc
is_array_of (integer x) ds e = cc
is_array_of (float x) ds e = cc
is_array_of (boolean x) ds e = cc
is_array_of (datetime x) ds e = cc
is_array_of (table x) ds e = cc

-- the element at a place
pub element_got : (A : Bor Value → Type 0) (vs : List Value) (place : ℕ) (r : Option (Bor Value))
    → MatchOption r (length vs ≤ place) (λ x. (place < length vs) × A x) → IfSome r (λ x. x.now ≡ get_or vs place x.now)
    → option_map (λ element. view element.now) r ≡ element_at (items_view vs) place
element_got A [] place None high is = refl
element_got A [] place (Some x) low is = absurd (omega (arith, low.0))
element_got A (v ∷ vs) zero None high is = absurd (omega arith)
element_got A (v ∷ vs) zero (Some x) low is = ap (λ value. Some (view value)) is
element_got A (v ∷ vs) (suc place) None high is = element_got (λ _. ⊤) vs place None (omega arith) tt
element_got A (v ∷ vs) (suc place) (Some x) low is = element_got (λ _. ⊤) vs place (Some x) (omega (arith, low.0), tt) is
