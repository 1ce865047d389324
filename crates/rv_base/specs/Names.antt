-- The names of jobs and of runs, and the index of a name in a list.
use Rattle.std.specs.Prelude.{ℕ, Bool, List, [], ◌∷◌, Option, Some, None, ◌+◌, ◌==◌, ◌&&◌, ◌||◌}
use Rattle.std.specs.Prelude.{codes, if◌then◌else◌, length, option_map}
use Rattle.std.specs.Char.{is_ascii_alphanumeric}
use Rattle.std.specs.List.{list_all, list_any}
use Rattle.std.specs.Str.{bytes_eq}
use Rattle.rv_base.specs.Limits.{is_within, max_name_len}

-- whether a byte may be in a name: an ASCII letter or digit, or one of `.`, `_` and `-`
unfoldable pub is_name_byte : ℕ → Bool
is_name_byte c = is_ascii_alphanumeric c || list_any (λ b. c == b) (codes "._-")

-- whether a text is a valid name of a job or of a run: 1 to 64 bytes that may be in a name
unfoldable pub is_name : List ℕ → Bool
is_name t = is_within 1 max_name_len (length t) && list_all is_name_byte t

-- the index of the first text in the list that equals `t`, or `None` if none does
unfoldable pub index_in : List (List ℕ) → List ℕ → Option ℕ
index_in [] t = None
index_in (x ∷ xs) t = if bytes_eq t x then Some 0 else option_map (λ k. k + 1) (index_in xs t)
