-- The digits of words, counts with their nouns, and exit codes.
use Rattle.std.specs.Prelude.{◌==◌, ◌-◌, ◌++◌, ℕ, List, [], codes, if◌then◌else◌, leb}
use Rattle.std.specs.Fmt.{decimal}
use Rattle.std.specs.Int.{w32, to_be_bytes}
use Rattle.hex.specs.Hex.{encode_lower}

-- a word as eight lower-case hexadecimal digits, most significant first
unfoldable pub word_digits : ℕ → List ℕ
word_digits word = encode_lower (to_be_bytes w32 word)

-- the ending of a noun after this count: empty for 1, and `s` for any other count
abbrev pub plural_ending : ℕ → List ℕ
plural_ending count = if count == 1 then [] else codes "s"

-- the count followed by the noun, which is given in the singular, as in `1 step` and `2 steps`
unfoldable pub count_text : ℕ → List ℕ → List ℕ
count_text count noun = decimal count ++ codes " " ++ noun ++ plural_ending count

-- an exit code in decimal; if its top bit is set, as a negative number followed by the unsigned one that lists use: `-1 (4294967295)`
unfoldable pub exit_code_text : ℕ → List ℕ
exit_code_text code = if leb code 2147483647 then decimal code
    else codes "-" ++ decimal (4294967296 - code) ++ codes " (" ++ decimal code ++ codes ")"
