-- A packet around a body, and its checksum.
use Rattle.std.specs.Prelude.{ℕ, List, [], ◌∷◌, ◌++◌, ◌==◌, ◌+◌, ◌*◌, ◌%◌, Option, Some, None, if◌then◌else◌, sum}
use Rattle.hex.specs.Hex.{encode_lower}
use Rattle.rv_gdb_protocol.specs.Escapes.{packet_start, body_end, escaped}
use Rattle.rv_gdb_protocol.specs.declared.frame.Checksum.{Checksum}
use Rattle.rv_gdb_protocol.specs.declared.frame.Checksum.TheVariants as checksum

-- the checksum of a text: the sum of its bytes modulo 256
unfoldable pub checksum_of : List ℕ → ℕ
checksum_of text = sum text % 256

-- the checksum of a text as two hexadecimal digits
unfoldable pub checksum_digits : List ℕ → List ℕ
checksum_digits text = encode_lower (checksum_of text ∷ [])

-- the packet around a text without bytes that must be escaped: `$`, the text, `#` and its checksum
abbrev pub packet_of_escaped : List ℕ → List ℕ
packet_of_escaped text = packet_start ∷ (text ++ body_end ∷ checksum_digits text)

-- the packet around a body, which is escaped
unfoldable pub packet_of : List ℕ → List ℕ
packet_of body = packet_of_escaped (escaped body)

-- the checksum that two hexadecimal digits represent; the arguments are the values of the digits, or `None` for a byte that is not a digit
abbrev pub parse_checksum : Option ℕ → Option ℕ → Option ℕ
parse_checksum (Some high) (Some low) = Some (high * 16 + low)
parse_checksum (Some high) None = None
parse_checksum None low = None

-- `Right` if the received checksum equals the correct one, else `Wrong`
abbrev pub checksum_check : ℕ → Option ℕ → Checksum
checksum_check correct (Some received) = if received == correct then checksum.Right else checksum.Wrong
checksum_check correct None = checksum.Wrong
