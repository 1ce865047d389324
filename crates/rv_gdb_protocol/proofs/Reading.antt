-- A text in a frame is heard alone, and a framed body is read back.
use Rattle.std.proofs.Common.{◌≡◌, ◌++◌, ◌∷◌, ◌+◌, ◌*◌, ◌/◌, ◌%◌, ◌<◌, ◌≤◌, ◌==◌, ◌||◌, ◌⊎◌, inl, inr, [], ℕ, List, Bool, true, false, not, Option, Some, fold, length, refl, ap, append-nil, append_assoc, arith, length-append, slice_index, sym, ◌∙◌}
use Rattle.std.specs.List.{list_all}
use Rattle.std.proofs.lemmas.Bool.{and_from, and_parts, cases_Bool, cond-true, cond-false, eq-eqb, lt-ltb, not-true, or_parts}
use Rattle.std.proofs.lemmas.List.Folds.{list_all-append}
use Rattle.hex.specs.Hex.{encode_with, hex_digit_value, lower_digits}
use Rattle.hex.proofs.HexLemmas.{IsDigits-lower_digits}
use Rattle.rv_gdb_protocol.proofs.Hearing.{incoming_in-append, incoming_in-empty}
use Rattle.rv_gdb_protocol.specs.Escapes.{packet_start, inverted, data_of, body_end, escape, escaped, escaped_byte, is_special, is_escape}
use Rattle.rv_gdb_protocol.specs.ReaderStates.{ReaderState, between_packets, state_after_byte, incoming_in, max_body}
use Rattle.rv_gdb_protocol.specs.Readback.{CanBeSent, IsReceivedAsOnePacket, IsReadBack, incoming_in_pieces, is_plain, joined, packet_with_digits, check_of_digits}
use Rattle.rv_gdb_protocol.specs.Checksums.{packet_of, checksum_check, checksum_digits, checksum_of, parse_checksum}
use Rattle.rv_gdb_protocol.specs.declared.frame.Incoming.TheVariants.{Packet}
use Rattle.rv_gdb_protocol.specs.declared.frame.PacketPosition.TheVariants as position
use Rattle.rv_gdb_protocol.specs.declared.frame.Checksum.TheVariants as verdict

abbrev in_body : List ℕ → ReaderState
in_body body = record { position = position.Body; body = body }

-- ---- a text in its frame

-- a plain byte makes a body longer that has room for it
body_longer : (front : List ℕ) (byte : ℕ) → is_plain byte ≡ true → length front < max_body
    → state_after_byte (in_body front) byte ≡ in_body (front ++ byte ∷ [])
body_longer front byte plain room =
    let neither = or_parts (byte == packet_start) (byte == body_end) (not-true (byte == packet_start || byte == body_end) plain) in
    rw (neither.0, neither.1, lt-ltb (length front) max_body room) refl

body_heard : (front text rest : List ℕ) → list_all is_plain text ≡ true → length front + length text ≤ max_body
    → incoming_in (in_body front) (text ++ rest) ≡ incoming_in (in_body (front ++ text)) rest
unfolding incoming_in
body_heard front [] rest plain fits = ap (λ (body : List ℕ). incoming_in (in_body body) rest) (sym (append-nil front))
body_heard front (byte ∷ text) rest plain fits =
    let parts = and_parts (is_plain byte) (list_all is_plain text) plain in
    let grown : length (front ++ byte ∷ []) ≡ length front + 1 = length-append front (byte ∷ []) in
    ap (λ (frame : ReaderState). incoming_in frame (text ++ rest)) (body_longer front byte parts.0 (omega arith))
    ∙ body_heard (front ++ byte ∷ []) text rest parts.1 (omega arith)
    ∙ ap (λ (body : List ℕ). incoming_in (in_body body) rest) (append_assoc front (byte ∷ []) text)

body_behind : (front text rest : List ℕ) → list_all is_plain text ≡ true → length front + length text ≤ max_body
    → fold state_after_byte (in_body front) (text ++ rest) ≡ fold state_after_byte (in_body (front ++ text)) rest
body_behind front [] rest plain fits = ap (λ (body : List ℕ). fold state_after_byte (in_body body) rest) (sym (append-nil front))
body_behind front (byte ∷ text) rest plain fits =
    let parts = and_parts (is_plain byte) (list_all is_plain text) plain in
    let grown : length (front ++ byte ∷ []) ≡ length front + 1 = length-append front (byte ∷ []) in
    ap (λ (frame : ReaderState). fold state_after_byte frame (text ++ rest)) (body_longer front byte parts.0 (omega arith))
    ∙ body_behind (front ++ byte ∷ []) text rest parts.1 (omega arith)
    ∙ ap (λ (body : List ℕ). fold state_after_byte (in_body body) rest) (append_assoc front (byte ∷ []) text)

sent_heard : (text : List ℕ) (high low : ℕ) → CanBeSent text
    → incoming_in between_packets (packet_with_digits text high low) ≡ Packet text (check_of_digits text high low) ∷ []
unfolding incoming_in
sent_heard text high low can = body_heard [] text (body_end ∷ high ∷ low ∷ []) can.plain (omega arith)

sent_behind : (text : List ℕ) (high low : ℕ) → CanBeSent text → fold state_after_byte between_packets (packet_with_digits text high low) ≡ between_packets
sent_behind text high low can = body_behind [] text (body_end ∷ high ∷ low ∷ []) can.plain (omega arith)

-- ---- pieces

pieces_heard : (frame : ReaderState) (pieces : List (List ℕ)) → incoming_in_pieces frame pieces ≡ incoming_in frame (joined pieces)
unfolding incoming_in_pieces
pieces_heard frame [] = sym (incoming_in-empty frame)
pieces_heard frame (piece ∷ rest) =
    ap (λ more. incoming_in frame piece ++ more) (pieces_heard (fold state_after_byte frame piece) rest)
    ∙ sym (incoming_in-append frame piece (joined rest))

pub sent_alone : (text : List ℕ) (high low : ℕ) → CanBeSent text
    → IsReceivedAsOnePacket (packet_with_digits text high low) text (check_of_digits text high low)
sent_alone text high low can = record {
  received = λ pieces are. pieces_heard between_packets pieces ∙ ap (incoming_in between_packets) are ∙ sent_heard text high low can;
  state_after = sent_behind text high low can;
}

-- ---- escapes

meaning_cases : (byte : ℕ) → is_special byte ≡ true → (byte ≡ 36) ⊎ ((byte ≡ 35) ⊎ ((byte ≡ 125) ⊎ (byte ≡ 42)))
meaning_cases byte is = grind arith

meaning_escaped : (byte : ℕ) → is_special byte ≡ true → escaped_byte byte ≡ escape ∷ inverted byte ∷ []
meaning_escaped byte is = cond-true (is_special byte) (escape ∷ inverted byte ∷ []) (byte ∷ []) is

plain_escaped : (byte : ℕ) → is_special byte ≡ false → escaped_byte byte ≡ byte ∷ []
plain_escaped byte is = cond-false (is_special byte) (escape ∷ inverted byte ∷ []) (byte ∷ []) is

-- what holds of the escapes of the four bytes, and of each other byte as it is, holds of each byte as it is escaped
escapes_hold : (P : ℕ → List ℕ → Type 0) → P 36 (125 ∷ 4 ∷ []) → P 35 (125 ∷ 3 ∷ []) → P 125 (125 ∷ 93 ∷ [])
    → P 42 (125 ∷ 10 ∷ []) → ((byte : ℕ) → is_special byte ≡ false → P byte (byte ∷ [])) → (byte : ℕ) → P byte (escaped_byte byte)
escapes_hold P begins ends escapes repeats others byte =
    elim (cases_Bool (is_special byte)) [
      | inl is ↦ elim (meaning_cases byte is) [
        | inl e ↦ rw e begins
        | inr one ↦ elim one [
          | inl e ↦ rw e ends
          | inr two ↦ elim two [ inl e ↦ rw e escapes | inr e ↦ rw e repeats ]
        ]
      ]
      | inr is ↦ rw (plain_escaped byte is) (others byte is)
    ]

byte_plain : (byte : ℕ) → list_all is_plain (escaped_byte byte) ≡ true
byte_plain = escapes_hold (λ byte text. list_all is_plain text ≡ true) refl refl refl refl (λ byte is. grind arith)

escaped_plain : (body : List ℕ) → list_all is_plain (escaped body) ≡ true
escaped_plain [] = refl
escaped_plain (byte ∷ body) =
    list_all-append is_plain (escaped_byte byte) (escaped body)
    ∙ and_from (list_all is_plain (escaped_byte byte)) (list_all is_plain (escaped body)) (byte_plain byte) (escaped_plain body)

-- a byte with no meaning is no escape
other_byte : (byte : ℕ) → is_special byte ≡ false → (byte == escape) ≡ false
other_byte byte is = grind arith

other_data : (rest : List ℕ) (byte : ℕ) → is_special byte ≡ false → data_of false (byte ∷ rest) ≡ byte ∷ data_of false rest
unfolding data_of
other_data rest byte is = rw (other_byte byte is) refl

byte_data : (rest : List ℕ) (byte : ℕ) → data_of false (escaped_byte byte ++ rest) ≡ byte ∷ data_of false rest
unfolding data_of
byte_data rest = escapes_hold (λ byte text. data_of false (text ++ rest) ≡ byte ∷ data_of false rest) refl refl refl refl
    (other_data rest)

escaped_data : (body : List ℕ) → data_of false (escaped body) ≡ body
unfolding data_of
escaped_data [] = refl
escaped_data (byte ∷ body) = byte_data (escaped body) byte ∙ ap (λ (rest : List ℕ). byte ∷ rest) (escaped_data body)

byte_whole : (rest : List ℕ) (byte : ℕ) → fold is_escape false (escaped_byte byte ++ rest) ≡ fold is_escape false rest
byte_whole rest = escapes_hold (λ byte text. fold is_escape false (text ++ rest) ≡ fold is_escape false rest) refl refl refl refl
    (λ byte is. ap (λ (behind : Bool). fold is_escape behind rest) (other_byte byte is))

escaped_whole : (body : List ℕ) → fold is_escape false (escaped body) ≡ false
escaped_whole [] = refl
escaped_whole (byte ∷ body) = byte_whole (escaped body) byte ∙ escaped_whole body

-- ---- the sum

sum_small : (text : List ℕ) → checksum_of text < 256
unfolding checksum_of
sum_small text = omega arith

sum_right : (text : List ℕ) → check_of_digits text (slice_index lower_digits (checksum_of text / 16)) (slice_index lower_digits (checksum_of text % 16))
    ≡ verdict.Right
sum_right text =
    let s : ℕ = checksum_of text in
    let small : s < 256 = sum_small text in
    let high : ℕ = s / 16 in
    let low : ℕ = s % 16 in
    ap (λ (told : Option ℕ). checksum_check s (parse_checksum told (hex_digit_value (slice_index lower_digits low))))
    (IsDigits-lower_digits high (omega arith))
    ∙ ap (λ (told : Option ℕ). checksum_check s (parse_checksum (Some high) told)) (IsDigits-lower_digits low (omega arith))
    ∙ cond-true (high * 16 + low == s) verdict.Right verdict.Wrong (eq-eqb (high * 16 + low) s (omega arith))

framed_alone : (body : List ℕ) → length (escaped body) ≤ max_body → IsReceivedAsOnePacket (packet_of body) (escaped body) verdict.Right
unfolding packet_of checksum_digits encode_with
framed_alone body fits =
    let text : List ℕ = escaped body in
    let high : ℕ = slice_index lower_digits (checksum_of text / 16) in
    let low : ℕ = slice_index lower_digits (checksum_of text % 16) in
    let can : CanBeSent text = record { plain = escaped_plain body; fits = fits } in
    rw (← sum_right text) (sent_alone text high low can)

pub framed_read_back : (body : List ℕ) → length (escaped body) ≤ max_body → IsReadBack body
framed_read_back body fits = record {
  received = framed_alone body fits;
  data_is = escaped_data body;
  complete = ap not (escaped_whole body);
}
