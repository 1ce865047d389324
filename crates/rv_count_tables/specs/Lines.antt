-- Lines of a text, and where a line ends.
use Rattle.std.specs.Prelude.{◌==◌, ◌+◌, ◌-◌, ℕ, Bool, true, not, nat_lt, ◌&&◌, if◌then◌else◌, List, [], ◌∷◌, length, take, drop, Result, Ok, Err}
use Rattle.hex.specs.Hex.{decode_of}
use Rattle.hex.specs.declared.error.FromHexError.{FromHexError}

-- whether a byte does not occur in a text
abbrev pub lacks : ℕ → List ℕ → Bool
lacks byte [] = true
lacks byte (b ∷ bs) = not (b == byte) && lacks byte bs

-- the index of the first occurrence of a byte in a text, or the length of the text if the byte does not occur
unfoldable pub index_of_byte : ℕ → List ℕ → ℕ
index_of_byte byte [] = 0
index_of_byte byte (b ∷ bs) = if b == byte then 0 else index_of_byte byte bs + 1

-- the text before the first occurrence of a byte, or the whole text if the byte does not occur
abbrev pub text_before_byte : ℕ → List ℕ → List ℕ
text_before_byte byte text = take (index_of_byte byte text) text

-- the text after the first occurrence of a byte, or an empty text if the byte does not occur
abbrev pub text_after_byte : ℕ → List ℕ → List ℕ
text_after_byte byte text = drop (index_of_byte byte text + 1) text

-- the first line of a text with its line feed, or nothing if the text has no line feed
unfoldable pub whole_line : List ℕ → List ℕ
whole_line text = if index_of_byte 10 text == length text then [] else take (index_of_byte 10 text + 1) text

-- the number of line feeds in a text
abbrev pub line_feed_count : List ℕ → ℕ
line_feed_count [] = 0
line_feed_count (b ∷ bs) = if b == 10 then line_feed_count bs + 1 else line_feed_count bs

-- the first `count` lines of a text, each with its line feed if it has one
unfoldable pub first_lines : ℕ → List ℕ → List ℕ
first_lines count [] = []
first_lines count (b ∷ bs) =
    if count == 0 then [] else b ∷ first_lines (if b == 10 then count - 1 else count) bs

-- the value of a lower-case hexadecimal digit
abbrev pub hex_digit_value : ℕ → ℕ
hex_digit_value b = if nat_lt b 97 then b - 48 else b - 87

-- the decoded bytes, or no bytes if the digits are invalid
abbrev pub bytes_if_decoded : Result (List ℕ) FromHexError → List ℕ
bytes_if_decoded (Ok bytes) = bytes
bytes_if_decoded (Err error) = []

-- the bytes that hexadecimal digits encode, or no bytes if the text is not a valid encoding
unfoldable pub hex_bytes : List ℕ → List ℕ
hex_bytes text = bytes_if_decoded (decode_of text)
