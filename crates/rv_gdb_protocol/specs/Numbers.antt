-- Numbers, bytes and texts in packets.
use Rattle.std.specs.Prelude.{ℕ, List, ◌+◌, ◌*◌, ◌==◌, ◌&&◌, Option, Some, None, Result, Ok, Err, fold, if◌then◌else◌, length, nat_eq, nat_le, take, drop, position, option_and_then}
use Rattle.std.specs.Int.{w32, from_le_bytes}
use Rattle.std.specs.List.{starts_with}
use Rattle.hex.specs.Hex.{decode_of, decode_sized, hex_digit_value}
use Rattle.hex.specs.declared.error.FromHexError.{FromHexError}

-- the operator that applies the next step only if there is a value
infixl 10 ◌>>=◌
-- the result of `next` for the value, or `None` if there is no value or `next` returns `None`
abbrev pub ◌>>=◌ : {A B : Type 0} → Option A → (A → Option B) → Option B
value >>= next = option_and_then next value

-- the number with one more hexadecimal digit, or `None` if the number or the digit is missing
abbrev pub with_digit : Option ℕ → Option ℕ → Option ℕ
with_digit (Some value) (Some digit) = Some (value * 16 + digit)
with_digit (Some value) None = None
with_digit None digit = None

-- the number with the byte as one more hexadecimal digit, or `None` if the digits before are not a number or the byte is not a digit
abbrev pub with_hex_digit : Option ℕ → ℕ → Option ℕ
with_hex_digit value byte = with_digit value (hex_digit_value byte)

-- the number that 1 to 8 hexadecimal digits represent, in either case, or `None` for any other text
unfoldable pub parse_number : List ℕ → Option ℕ
parse_number text = if nat_le 1 (length text) && nat_le (length text) 8 then fold with_hex_digit (Some 0) text else None

-- the decoded bytes, or `None` if decoding failed
abbrev pub bytes_if_decoded : Result (List ℕ) FromHexError → Option (List ℕ)
bytes_if_decoded (Ok bytes) = Some bytes
bytes_if_decoded (Err refused) = None

-- the bytes that hexadecimal digits represent, two digits for each, or `None` for any other text
unfoldable pub parse_bytes : List ℕ → Option (List ℕ)
parse_bytes text = bytes_if_decoded (decode_of text)

-- the value of the decoded bytes, low byte first, or `None` if decoding failed
abbrev pub value_if_decoded : Result (List ℕ) FromHexError → Option ℕ
value_if_decoded (Ok bytes) = Some (from_le_bytes w32 bytes)
value_if_decoded (Err refused) = None

-- the value of a register from eight hexadecimal digits, low byte first, or `None` for any other text
unfoldable pub parse_value : List ℕ → Option ℕ
parse_value text = value_if_decoded (decode_sized text 4)

-- the index of the first occurrence of a delimiter, or `None` if there is none
abbrev pub delimiter_index : ℕ → List ℕ → Option ℕ
delimiter_index delimiter text = position (λ byte. byte == delimiter) text

-- the two numbers before and after the first occurrence of a delimiter, or `None` if either is not a number
unfoldable pub parse_two_numbers : ℕ → List ℕ → Option (ℕ × ℕ)
parse_two_numbers delimiter text = do
  index ← delimiter_index delimiter text
  first ← parse_number (take index text)
  second ← parse_number (drop (index + 1) text)
  Some (first, second)

-- the text up to this index, or the whole text if no index is given
abbrev pub text_to : Option ℕ → List ℕ → List ℕ
text_to (Some index) text = take index text
text_to None text = text

-- the text before the first occurrence of a delimiter, or all of it if there is none
unfoldable pub text_before : ℕ → List ℕ → List ℕ
text_before delimiter text = text_to (delimiter_index delimiter text) text

-- the text after `name`, or `None` if the text does not begin with `name`
unfoldable pub text_after : List ℕ → List ℕ → Option (List ℕ)
text_after name text = if starts_with nat_eq text name then Some (drop (length name) text) else None
