-- A text as a TOML basic string on one line: in quotes, with control characters, quotes and backslashes escaped (TOML 1.0.0, String).
use Rattle.std.specs.Prelude.{ℕ, List, [], ◌∷◌, ◌++◌, ◌==◌, ◌||◌, Bool, codes, if◌then◌else◌, Option, Some, None}
use Rattle.std.specs.Int.{is_in_range}
use Rattle.std.specs.List.{flat_map}
use Rattle.hex.specs.Hex.{encode_lower}

-- the two-character escape of a byte in a TOML string, such as `\n`, or `None` if it has none
abbrev pub short_escape : ℕ → Option (List ℕ)
short_escape byte =
    if byte == 34 then Some (codes "\\\"") else if byte == 92 then Some (codes "\\\\")
    else if byte == 8 then Some (codes "\\b") else if byte == 9 then Some (codes "\\t")
    else if byte == 10 then Some (codes "\\n") else if byte == 12 then Some (codes "\\f")
    else if byte == 13 then Some (codes "\\r") else None

-- whether a byte is an ASCII control character
abbrev pub is_control : ℕ → Bool
is_control byte = is_in_range 0 31 byte || byte == 127

-- a byte in a TOML string: its two-character escape, if it has one; otherwise a control character as `\u00` and two hexadecimal digits, and
-- any other byte unchanged
abbrev pub byte_text_given_escape : Option (List ℕ) → ℕ → List ℕ
byte_text_given_escape (Some escape) byte = escape
byte_text_given_escape None byte =
    if is_control byte then codes "\\u00" ++ encode_lower (byte ∷ []) else byte ∷ []

-- a byte as it is written in a TOML string, escaped if necessary
abbrev pub byte_text : ℕ → List ℕ
byte_text byte = byte_text_given_escape (short_escape byte) byte

-- the text as a TOML basic string on one line
unfoldable pub basic_string : List ℕ → List ℕ
basic_string text = 34 ∷ flat_map byte_text text ++ 34 ∷ []
