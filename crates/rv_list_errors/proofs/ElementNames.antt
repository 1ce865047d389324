-- The names of elements, one by one.
use Rattle.std.proofs.Common.{◌≡◌, ◌∙◌, ◌<◌, ◌≤◌, ◌++◌, ◌∷◌, ℕ, zero, suc, List, [], length, get_or, Option, None, arith, ap, refl, sym, take, ◌+◌}
use Rattle.std.proofs.lemmas.List.{map-append, take_more}
use Rattle.std.specs.Borrow.{Bor}
use Rattle.std.specs.Prelude.{map, slice_index_or}
use Rattle.toml.specs.Data.{Data}
use Rattle.toml.specs.View.{items_of, items_view, view}
use Rattle.toml.specs.declared.value.Value.{Value}
use Rattle.rv_list_errors.specs.FaultHeads.{borrowed_name, borrowed_names, element_name, element_names}

-- one element more
pub names_more : (ds : List Data) (d : Data)
    → element_names (items_of (ds ++ d ∷ [])) ≡ element_names (items_of ds) ++ element_name d ∷ []
unfolding element_names
names_more [] d = refl
names_more (e ∷ ds) d = ap (λ l. element_name e ∷ l) (names_more ds d)

-- the name at a place
pub name_there : (names : List (Option (Bor (List ℕ)))) (place : ℕ) (name : Option (Bor (List ℕ))) → place < length names
    → name ≡ get_or names place name → borrowed_name name ≡ slice_index_or (borrowed_names names) place None
name_there [] place name low is = absurd (omega arith)
name_there (x ∷ names) zero name low is = ap borrowed_name is
name_there (x ∷ names) (suc k) name low is = name_there names k name (omega arith) is

-- and past the end
pub name_nowhere : (names : List (Option (Bor (List ℕ)))) (place : ℕ) → length names ≤ place
    → slice_index_or (borrowed_names names) place None ≡ None
name_nowhere [] place high = refl
name_nowhere (x ∷ names) zero high = absurd (omega arith)
name_nowhere (x ∷ names) (suc k) high = name_nowhere names k (omega arith)

pub names_step : (names pushed : List (Option (Bor (List ℕ)))) (jobs : List Value) (i : ℕ) (job : Value)
    (name : Option (Bor (List ℕ))) → i < length jobs → job ≡ get_or jobs i job
    → borrowed_names names ≡ element_names (items_view (take i jobs)) → pushed ≡ names ++ name ∷ []
    → borrowed_name name ≡ element_name (view job) → borrowed_names pushed ≡ element_names (items_view (take (i + 1) jobs))
names_step names pushed jobs i job name low is so more same =
    let left : borrowed_names pushed ≡ borrowed_names names ++ borrowed_name name ∷ [] =
    ap borrowed_names more ∙ map-append borrowed_name names (name ∷ []) in
    let taken : take (i + 1) jobs ≡ take i jobs ++ job ∷ [] =
    take_more jobs i job low ∙ ap (λ j. take i jobs ++ j ∷ []) (sym is) in
    let right : element_names (items_view (take (i + 1) jobs))
    ≡ element_names (items_view (take i jobs)) ++ element_name (view job) ∷ [] =
    ap (λ js. element_names (items_view js)) taken
    ∙ (ap (λ ds. element_names (items_of ds)) (map-append view (take i jobs) (job ∷ []))
    ∙ names_more (map view (take i jobs)) (view job)) in
    left ∙ ((λ k. so k ++ same k ∷ []) ∙ sym right)
