-- The first key of a table that is not known.
use Rattle.std.proofs.Common.{◌≡◌, ◌∙◌, Bool, true, false, ℕ, List, [], ◌∷◌, Option, Some, None, refl, ap, not, String, Global, string_bytes, if◌then◌else◌}
use Rattle.std.specs.Prelude.{option_map}
use Rattle.std.specs.Borrow.{Bor}
use Rattle.std.specs.List.{find}
use Rattle.std.specs.Map.{keys_of}
use Rattle.toml.specs.declared.value.Value.{Value}
use Rattle.toml.specs.View.{members_view}
use Rattle.rv_list_errors.specs.Explanation.{first_unknown_key}

unknown_entry : (known : List ℕ → Bool) (es : List (String Global × Value))
    → option_map string_bytes (find (λ k. not (known (string_bytes k))) (keys_of es)) ≡ first_unknown_key known (members_view es)
unfolding first_unknown_key
unknown_entry known [] = refl
unknown_entry known (e ∷ es) =
    elim (known (string_bytes e.0)) as (λ b. option_map string_bytes (if not b then Some e.0 else find (λ k. not (known (string_bytes k))) (keys_of es))
    ≡ (if b then first_unknown_key known (members_view es) else Some (string_bytes e.0))) [
      | true ↦ unknown_entry known es
      | false ↦ refl
    ]

bytes_of_found : (r : Option (Bor (String Global))) → option_map (λ key. string_bytes key.now) r
    ≡ option_map string_bytes (option_map (λ key. key.now) r)
bytes_of_found None = refl
bytes_of_found (Some key) = refl

pub unknown_found : (known : List ℕ → Bool) (es : List (String Global × Value)) (r : Option (Bor (String Global)))
    → option_map (λ key. key.now) r ≡ find (λ k. not (known (string_bytes k))) (keys_of es)
    → option_map (λ key. string_bytes key.now) r ≡ first_unknown_key known (members_view es)
unknown_found known es r e = bytes_of_found r ∙ ap (option_map string_bytes) e ∙ unknown_entry known es
