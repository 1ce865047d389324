-- The entries of a table and the items of an array, one by one.
use Rattle.std.proofs.Common.{◌≡◌, ◌∙◌, ◌+◌, Bool, ℕ, List, [], ◌∷◌, Some, refl, ap, not, ◌&&◌, ◌||◌}
use Rattle.std.proofs.Common.{length, String, Global, string_bytes, arith}
use Rattle.std.specs.List.{list_all, list_any}
use Rattle.std.specs.Map.{keys_of}
use Rattle.toml.specs.Data.{Data, Items, array, as_array, string, integer, float, boolean, datetime, table}
use Rattle.toml.specs.declared.value.Value.{Value}
use Rattle.toml.specs.View.{view, members_view, items_view}
use Rattle.rv_lists.specs.Keys.{any_unknown_key, any_item, all_items, item_count}

pub unknown_key_entries : (known : List ℕ → Bool) (es : List (String Global × Value))
    → list_any (λ k. not (known (string_bytes k))) (keys_of es)
    ≡ any_unknown_key known (members_view es)
unfolding any_unknown_key
unknown_key_entries known [] = refl
unknown_key_entries known (e ∷ es) =
    ap (λ b. not (known (string_bytes e.0)) || b) (unknown_key_entries known es)

pub any_value : (p : Data → Bool) (vs : List Value)
    → list_any (λ v. p (view v)) vs ≡ any_item p (items_view vs)
unfolding any_item
any_value p [] = refl
any_value p (v ∷ vs) = ap (λ b. p (view v) || b) (any_value p vs)

pub all_values : (p : Data → Bool) (vs : List Value)
    → list_all (λ v. p (view v)) vs ≡ all_items p (items_view vs)
unfolding all_items
all_values p [] = refl
all_values p (v ∷ vs) = ap (λ b. p (view v) && b) (all_values p vs)

pub count_items : (vs : List Value) → item_count (items_view vs) ≡ length vs
count_items [] = refl
count_items (v ∷ vs) = ap (λ n. n + 1) (count_items vs) ∙ omega arith

pub is_array : (d : Data) (ds : Items) → Some ds ≡ as_array d → d ≡ array ds
is_array (array es) ds e = cc
is_array (string x) ds e = cc
is_array (integer x) ds e = cc
is_array (float x) ds e = cc
is_array (boolean x) ds e = cc
is_array (datetime x) ds e = cc
is_array (table x) ds e = cc
