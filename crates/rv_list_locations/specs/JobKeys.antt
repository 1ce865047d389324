-- The keys of a job in its text, by TOML's grammar.
use Rattle.std.specs.Prelude.{◌≡◌, ◌⊎◌, ◌==◌, ℕ, List, Some, codes, drop, if◌then◌else◌, slice_get, slice_index, unwrap_or}
use Rattle.toml_parser.specs.Lexical.{left_bracket, skip_ws}
use Rattle.toml_parser.specs.Strings.{Key, key}

-- the first part of a dotted key, or the whole key if it has only one part
abbrev pub first_part : Key → List ℕ
first_part dotted_key = unwrap_or (slice_get dotted_key.0 0) dotted_key.1

-- the second part of a dotted key, or the last part if the key has fewer than three parts
abbrev pub second_part : Key → List ℕ
second_part dotted_key = unwrap_or (slice_get dotted_key.0 1) dotted_key.1

-- the text begins with a key whose first part is `name`
abbrev pub BeginsWithKey : List ℕ → List ℕ → Type 0
BeginsWithKey name text = (read : Key × List ℕ) × (key text ≡ Some read) × (first_part read.0 ≡ name)

-- the text from the key of a header on, without the opening brackets of the header, with which the given text begins
unfoldable pub header_key : List ℕ → List ℕ
header_key text = skip_ws (drop (if slice_index text 1 == left_bracket then 2 else 1) text)

-- the text begins with the header of a table in a job, whose key has the part `name` after `job`
abbrev pub BeginsWithTable : List ℕ → List ℕ → Type 0
BeginsWithTable name text = (slice_index text 0 ≡ left_bracket) × (read : Key × List ℕ) × (key (header_key text) ≡ Some read)
    × (slice_get read.0.0 0 ≡ Some (codes "job")) × (second_part read.0 ≡ name)

-- the text begins with a key whose first part is `name`, or with the header of the table `name` of a job
abbrev pub BeginsWithName : List ℕ → List ℕ → Type 0
BeginsWithName name text = BeginsWithKey name text ⊎ BeginsWithTable name text
