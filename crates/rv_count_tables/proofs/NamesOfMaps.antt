-- A map from functions to names, as the list of the names.
use Rattle.std.proofs.Common.{◌≡◌, ◌∙◌, ◌==◌, ℕ, Bool, true, false, cond, List, [], ◌∷◌, Option, Some, None, option_map, is_none, nat_lt, refl, sym, ap, arith, inl, inr}
use Rattle.std.proofs.lemmas.Bool.{cases_Bool, false≢true}
use Rattle.std.proofs.lemmas.Bool.Decides.{nat_tests}
use Rattle.std.specs.BTreeMap.{insert_entry, is_at}
use Rattle.std.specs.Map.{lookup}
use Rattle.std.specs.Ordering.{is_eq, match_ordering, nat_cmp}
use Rattle.rv_count_tables.specs.declared.table.FunctionName.{FunctionName}
use Rattle.rv_count_tables.specs.NamesByFunctionInside.{function_name_of_entry, names_of_entries}
use Rattle.rv_count_tables.specs.ReadSteps.{inserted, with_name}
use Rattle.rv_count_tables.specs.Table.{has_name, name_of}
use Rattle.rv_count_tables.proofs.NamesOfSpots.{ahead_of_higher, behind_lower, not_first}

same_test : (f g : ℕ) → is_eq (nat_cmp f g) ≡ (g == f)
same_test f g = grind (arith, nat_tests)

-- what a search in the map finds is the name
pub found_in_map : (f : ℕ) (es : List (ℕ × List ℕ)) → lookup (is_at (nat_cmp f)) es ≡ name_of f (names_of_entries es)
found_in_map f [] = refl
found_in_map f (e ∷ es) =
    ap (λ (b : Bool). cond b (Some e.1) (lookup (is_at (nat_cmp f)) es)) (same_test f e.0)
    ∙ ap (λ (o : Option (List ℕ)). cond (e.0 == f) (Some e.1) o) (found_in_map f es)

module _ (f : ℕ) (name : List ℕ) where
  abbrev new_name : FunctionName
  new_name = record { function = f; name = name }

  abbrev inserted_at : ℕ → List ℕ → List (ℕ × List ℕ) → List (ℕ × List ℕ)
  inserted_at g other es = match_ordering (nat_cmp f g) ((f, name) ∷ (g, other) ∷ es) ((g, name) ∷ es) ((g, other) ∷ insert_entry nat_cmp es f name)

  higher : (g : ℕ) (other : List ℕ) (es : List (ℕ × List ℕ)) → nat_lt g f ≡ true
      → inserted_at g other es ≡ (g, other) ∷ insert_entry nat_cmp es f name
  higher g other es h = grind (arith, nat_tests)

  lower : (g : ℕ) (other : List ℕ) (es : List (ℕ × List ℕ)) → nat_lt g f ≡ false → (g == f) ≡ false
      → inserted_at g other es ≡ (f, name) ∷ (g, other) ∷ es
  lower g other es h k = grind (arith, nat_tests)

  -- a name that is put into the map stands behind those of lower functions
  pub put_into_map : (es : List (ℕ × List ℕ)) → has_name (name_of f (names_of_entries es)) ≡ false
      → names_of_entries (insert_entry nat_cmp es f name) ≡ inserted new_name (names_of_entries es)
  put_into_map [] none = refl
  put_into_map (e ∷ es) none =
      let m = function_name_of_entry e in
      let p = not_first new_name m (names_of_entries es) none in elim (cases_Bool (nat_lt e.0 f)) [
        | inl t ↦
            ap names_of_entries (higher e.0 e.1 es t)
            ∙ ap (λ (ns : List FunctionName). m ∷ ns) (put_into_map es p.1)
            ∙ sym (behind_lower new_name m (names_of_entries es) t)
        | inr t ↦
            ap names_of_entries (lower e.0 e.1 es t p.0)
            ∙ sym (ahead_of_higher new_name m (names_of_entries es) t)
      ]

-- the names with one more, where its function has none
pub with_put : (f : ℕ) (name : List ℕ) (es more : List (ℕ × List ℕ)) (ns : List FunctionName) → names_of_entries es ≡ ns
    → more ≡ insert_entry nat_cmp es f name → has_name (name_of f ns) ≡ false
    → names_of_entries more ≡ with_name (new_name f name) ns
with_put f name es more ns e is none =
    ap names_of_entries is
    ∙ put_into_map f name es (ap (λ (ms : List FunctionName). has_name (name_of f ms)) e ∙ none)
    ∙ ap (inserted (new_name f name)) e
    ∙ sym (ap (λ (b : Bool). cond b ns (inserted (new_name f name) ns)) none)

-- a function without a name
pub has_none : {X : Type 0} (shows : X → List ℕ) (o : Option X) (p : Option (List ℕ)) → option_map shows o ≡ p → is_none o ≡ true
    → has_name p ≡ false
has_none shows None p e h = ap has_name (sym e)
has_none shows (Some x) p e h = absurd (false≢true h)
