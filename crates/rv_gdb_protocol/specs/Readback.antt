-- Round trips: what the parser receives of a packet that was made from a body, in whatever pieces its bytes arrive.
use Rattle.std.specs.Prelude.{ℕ, List, [], ◌∷◌, ◌++◌, ◌≡◌, ◌≤◌, ◌==◌, ◌||◌, Bool, true, false, fold, length, not}
use Rattle.std.specs.List.{flat_map, list_all}
use Rattle.hex.specs.Hex.{hex_digit_value}
use Rattle.rv_gdb_protocol.specs.Escapes.{packet_start, data_of, body_end, escaped, has_complete_escapes}
use Rattle.rv_gdb_protocol.specs.ReaderStates.{ReaderState, between_packets, state_after_byte, incoming_in, max_body}
use Rattle.rv_gdb_protocol.specs.Checksums.{packet_of, checksum_check, checksum_of, parse_checksum}
use Rattle.rv_gdb_protocol.specs.declared.frame.Incoming.{Incoming}
use Rattle.rv_gdb_protocol.specs.declared.frame.Incoming.TheVariants.{Packet}
use Rattle.rv_gdb_protocol.specs.declared.frame.Checksum.{Checksum}
use Rattle.rv_gdb_protocol.specs.declared.frame.Checksum.TheVariants as checksum

-- whether a byte is neither `$` nor `#`
abbrev pub is_plain : ℕ → Bool
is_plain byte = not (byte == packet_start || byte == body_end)

-- the text can be sent in a packet: it has neither `$` nor `#`, and is short enough to be stored
pub record CanBeSent (text : List ℕ) : Type 0 where
  pub plain : list_all is_plain text ≡ true
  pub fits : length text ≤ max_body

-- the packet around this text with `high` and `low` as the digits of its checksum
abbrev pub packet_with_digits : List ℕ → ℕ → ℕ → List ℕ
packet_with_digits text high low = packet_start ∷ (text ++ body_end ∷ high ∷ low ∷ [])

-- `Right` if the digits `high` and `low` are the checksum of the text, else `Wrong`
abbrev pub check_of_digits : List ℕ → ℕ → ℕ → Checksum
check_of_digits text high low = checksum_check (checksum_of text) (parse_checksum (hex_digit_value high) (hex_digit_value low))

-- the items that the parser receives, in order, if the bytes arrive in these pieces
unfoldable pub incoming_in_pieces : ReaderState → List (List ℕ) → List Incoming
incoming_in_pieces state [] = []
incoming_in_pieces state (piece ∷ rest) =
    incoming_in state piece ++ incoming_in_pieces (fold state_after_byte state piece) rest

-- the bytes of all pieces, one piece after another
abbrev pub joined : List (List ℕ) → List ℕ
joined pieces = flat_map (λ piece. piece) pieces

-- in whatever pieces the bytes arrive, the parser receives exactly one packet, with this text and checksum, and is then between packets
pub record IsReceivedAsOnePacket (bytes text : List ℕ) (sum : Checksum) : Type 0 where
  -- in whatever pieces the bytes arrive, this packet is the only item received
  pub received : (pieces : List (List ℕ)) → joined pieces ≡ bytes → incoming_in_pieces between_packets pieces ≡ Packet text sum ∷ []
  -- afterwards the parser is between packets
  pub state_after : fold state_after_byte between_packets bytes ≡ between_packets

-- the packet made from the body is received as one packet with a correct checksum, and its data is the body
pub record IsReadBack (body : List ℕ) : Type 0 where
  pub received : IsReceivedAsOnePacket (packet_of body) (escaped body) checksum.Right
  pub data_is : data_of false (escaped body) ≡ body
  pub complete : has_complete_escapes (escaped body) ≡ true

-- the bytes end with a packet around this text; `sum` says whether its checksum is correct
pub record EndsWithPacket (bytes text : List ℕ) (sum : Checksum) : Type 0 where
  pub front : List ℕ
  pub high : ℕ
  pub low : ℕ
  pub bytes_are : bytes ≡ front ++ packet_with_digits text high low
  pub can_be_sent : CanBeSent text
  pub sum_is : sum ≡ check_of_digits text high low
