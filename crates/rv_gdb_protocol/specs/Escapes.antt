-- Escapes: how bytes with a special meaning are written in a packet, and the data that a text with escapes represents.
use Rattle.std.specs.Prelude.{ℕ, List, [], ◌∷◌, ◌++◌, ◌==◌, ◌||◌, Bool, true, false, bit_xor, fold, if◌then◌else◌, not}
use Rattle.std.specs.List.{flat_map}

-- `$`, which begins a packet
abbrev pub packet_start : ℕ
packet_start = 36

-- `#`, which ends the body of a packet
abbrev pub body_end : ℕ
body_end = 35

-- `}`, which escapes the next byte
abbrev pub escape : ℕ
escape = 125

-- `*`, which in a packet means that the byte before it is repeated
abbrev pub repeat_mark : ℕ
repeat_mark = 42

-- whether a byte has a special meaning in a packet, so that it must be escaped
abbrev pub is_special : ℕ → Bool
is_special byte = byte == packet_start || byte == body_end || byte == escape || byte == repeat_mark

-- a byte with bit 5 inverted, as it is written after `}`
abbrev pub inverted : ℕ → ℕ
inverted byte = bit_xor byte 32

-- the bytes that represent a byte in a packet: the byte itself, or, if it has a special meaning, `}` and the byte with bit 5 inverted
abbrev pub escaped_byte : ℕ → List ℕ
escaped_byte byte = if is_special byte then escape ∷ inverted byte ∷ [] else byte ∷ []

-- a body as it is written in a packet, with escapes
abbrev pub escaped : List ℕ → List ℕ
escaped body = flat_map escaped_byte body

-- whether a byte is an escape: it is `}`, and the byte before it is not an escape, which the Bool says
abbrev pub is_escape : Bool → ℕ → Bool
is_escape true byte = false
is_escape false byte = byte == escape

-- the data that a byte represents; empty for an escape; the Bool says whether the byte before it is an escape
abbrev pub data_byte : Bool → ℕ → List ℕ
data_byte true byte = inverted byte ∷ []
data_byte false byte = if byte == escape then [] else byte ∷ []

-- the data that a text with escapes represents; `after_escape` says whether the byte before it is an escape
unfoldable pub data_of : Bool → List ℕ → List ℕ
data_of after_escape [] = []
data_of after_escape (byte ∷ rest) = data_byte after_escape byte ++ data_of (is_escape after_escape byte) rest

-- whether each escape of a text is followed by a byte
abbrev pub has_complete_escapes : List ℕ → Bool
has_complete_escapes text = not (fold is_escape false text)
