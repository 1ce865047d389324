-- What is told of a value of another kind than its key has.
use Rattle.std.proofs.Common.{◌≡◌, ◌∙◌, ◌+◌, ◌++◌, ℕ, List, [], Option, Some, None, ap, append-nil, append_assoc, inr, refl, subst, sym}
use Rattle.std.specs.Prelude.{codes, map, option_map}
use Rattle.std.specs.Borrow.{Bor}
use Rattle.std.specs.Fmt.{decimal}
use Rattle.std.specs.List.{find}
use Rattle.toml.specs.Data.{Members, get_member}
use Rattle.rv_lists.specs.declared.keys.ValueType.{ValueType}
use Rattle.rv_list_errors.specs.JobFaults.{BeginsWithRegion, BeginsWithValue, ExplainsSameAs, ExplainsName, ExplainsExpectedValue}
use Rattle.rv_list_errors.specs.JobFaults.{has_wrong_type_at_key, has_wrong_type_at, key_and_type}
use Rattle.rv_list_errors.specs.Lines.{BeginsWith}
use Rattle.rv_list_errors.specs.Explanation.{IsKeyAndValue, IsExpectedValue, region_number_text}
use Rattle.rv_list_errors.specs.declared.explanations.Expected.{Expected}
use Rattle.rv_list_errors.proofs.NamesFound.{find_of_map}

pub value_of_wanted : (wanted : Expected) (key : List ℕ) (ms : Members) (told : List ℕ) → wanted.key.now ≡ key
    → ExplainsExpectedValue wanted ms told → BeginsWithValue key ms told
value_of_wanted wanted key ms told e (met, is, so) =
    (met, subst (λ name. IsKeyAndValue name (get_member name ms) met) e is, (_, so))

pub value_of_words : (key words : List ℕ) (ms : Members) (told : List ℕ)
    → IsExpectedValue key (get_member key ms) words told → BeginsWithValue key ms told
value_of_words key words ms told (met, is, so) = (met, is, (_, so))

pub region_of_number : (key : List ℕ) (ms : Members) (place : ℕ) (told : List ℕ) → BeginsWith (region_number_text place) told
    → BeginsWithRegion key ms told
region_of_number key ms place told (rest, so) =
    inr (decimal (place + 1) ++ rest, so ∙ append_assoc (codes "region ") (decimal (place + 1)) rest)

names_of : (found : Option (Bor (Bor (List ℕ) × ValueType)))
    → option_map (λ known. key_and_type known.now) found ≡ option_map key_and_type (option_map (λ known. known.now) found)
names_of None = refl
names_of (Some known) = refl

pub found_in_names : (ms : Members) (keys : List (Bor (List ℕ) × ValueType)) (found : Option (Bor (Bor (List ℕ) × ValueType)))
    → option_map (λ known. known.now) found ≡ find (has_wrong_type_at_key ms) keys
    → option_map (λ known. key_and_type known.now) found ≡ find (has_wrong_type_at ms) (map key_and_type keys)
found_in_names ms keys found is =
    names_of found ∙ ap (option_map key_and_type) is ∙ sym (find_of_map (has_wrong_type_at ms) key_and_type keys)

-- ---- names

pub same_as_alone : (names : List (Option (List ℕ))) (ms : Members) (told : List ℕ)
    → ExplainsName names (codes "same_as") (codes "expected the name of an earlier job") ms told → ExplainsSameAs names ms told
same_as_alone names ms told is = (told, is, ([], sym (append-nil told)))

pub same_as_and_more : (names : List (Option (List ℕ))) (ms : Members) (told more : List ℕ)
    → ExplainsName names (codes "same_as") (codes "expected the name of an earlier job") ms told → BeginsWith [] more
    → ExplainsSameAs names ms (told ++ more)
same_as_and_more names ms told more is any = (told, is, (more, refl))
