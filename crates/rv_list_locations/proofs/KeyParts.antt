-- The parts of a key.
use Rattle.std.proofs.Common.{◌≡◌, ◌∙◌, ℕ, List, None, Some, ap}
use Rattle.std.specs.Prelude.{String, option_map, slice_get, string_bytes, unwrap_or}
use Rattle.std.specs.declared.alloc.Global.{Global}
use Rattle.std.proofs.lemmas.Option.{slice_get-map}
use Rattle.toml_parser.specs.Reading.{path_view}

pub some_part : (path : List (String Global)) (last : List ℕ) (place : ℕ) (part : String Global)
    → slice_get path place ≡ Some part → unwrap_or (slice_get (path_view path) place) last ≡ string_bytes part
some_part path last place part is =
    ap (λ o. unwrap_or o last) (slice_get-map string_bytes path place ∙ ap (option_map string_bytes) is)

pub no_part : (path : List (String Global)) (last : List ℕ) (place : ℕ) → slice_get path place ≡ None
    → unwrap_or (slice_get (path_view path) place) last ≡ last
no_part path last place is =
    ap (λ o. unwrap_or o last) (slice_get-map string_bytes path place ∙ ap (option_map string_bytes) is)

-- the part at a place is a text
pub part_is : (path : List (String Global)) (place : ℕ) (part : String Global) (text : List ℕ)
    → slice_get path place ≡ Some part → string_bytes part ≡ text → slice_get (path_view path) place ≡ Some text
part_is path place part text is same =
    slice_get-map string_bytes path place ∙ ap (option_map string_bytes) is ∙ ap Some same
