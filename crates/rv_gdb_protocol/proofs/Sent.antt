-- A packet that is heard was sent.
use Rattle.std.proofs.Common.{◌≡◌, ◌++◌, ◌∷◌, ◌+◌, ◌<◌, ◌==◌, [], ℕ, List, true, false, cond, ltb, Some, fold, length, refl, ap, append-nil, append_assoc, arith, length-append, sym, ◌∙◌}
use Rattle.std.specs.List.{list_all}
use Rattle.std.proofs.lemmas.Bool.{and_from, cond_both, eqb-true, ltb-true, not_from_false, or_from}
use Rattle.std.proofs.lemmas.List.Folds.{list_all-append}
use Rattle.rv_gdb_protocol.specs.Escapes.{packet_start, body_end}
use Rattle.rv_gdb_protocol.specs.ReaderStates.{ReaderState, state_after_byte_at, between_packets, state_after_byte, incoming_at, item_in_state, longer_body, max_body, at_body_start, in_long_body, single_byte_item}
use Rattle.rv_gdb_protocol.specs.Readback.{CanBeSent, EndsWithPacket, is_plain, packet_with_digits, check_of_digits}
use Rattle.rv_gdb_protocol.specs.declared.frame.Incoming.TheVariants as heard
use Rattle.rv_gdb_protocol.specs.declared.frame.PacketPosition.{PacketPosition}
use Rattle.rv_gdb_protocol.specs.declared.frame.PacketPosition.TheVariants as position
use Rattle.rv_gdb_protocol.specs.declared.frame.Checksum.{Checksum}

-- bytes end with `$`, a text and what has come behind the text
pub record EndsOpen (bytes text behind : List ℕ) : Type 0 where
  pub front : List ℕ
  pub bytes_are : bytes ≡ front ++ packet_start ∷ (text ++ behind)
  pub can : CanBeSent text

-- what a frame tells of the bytes that led to it
abbrev Tells : PacketPosition → List ℕ → List ℕ → Type 0
Tells position.Body text bytes = EndsOpen bytes text []
Tells position.FirstDigit text bytes = EndsOpen bytes text (body_end ∷ [])
Tells (position.SecondDigit high) text bytes = EndsOpen bytes text (body_end ∷ high ∷ [])
Tells position.Between text bytes = Unit {0}
Tells position.LongBody text bytes = Unit {0}
Tells position.LongFirstDigit text bytes = Unit {0}
Tells position.LongSecondDigit text bytes = Unit {0}

abbrev FrameTells : List ℕ → ReaderState → Type 0
FrameTells bytes frame = Tells frame.position frame.body bytes

-- one byte more behind the text
one_more : (bytes text behind : List ℕ) (byte : ℕ) → EndsOpen bytes text behind
    → EndsOpen (bytes ++ byte ∷ []) text (behind ++ byte ∷ [])
one_more bytes text behind byte open_ = record {
  front = open_.front;
  bytes_are =
      ap (λ (all : List ℕ). all ++ byte ∷ []) open_.bytes_are
      ∙ append_assoc open_.front (packet_start ∷ (text ++ behind)) (byte ∷ [])
      ∙ ap (λ (rest : List ℕ). open_.front ++ packet_start ∷ rest) (append_assoc text behind (byte ∷ []));
  can = open_.can;
}

-- one byte more in the text
longer : (bytes text : List ℕ) (byte : ℕ) → EndsOpen bytes text [] → is_plain byte ≡ true → length text < max_body
    → EndsOpen (bytes ++ byte ∷ []) (text ++ byte ∷ []) []
longer bytes text byte open_ plain room =
    let more = one_more bytes text [] byte open_ in
    let grown : length (text ++ byte ∷ []) ≡ length text + 1 = length-append text (byte ∷ []) in record {
      front = more.front;
      bytes_are = more.bytes_are ∙ ap (λ (rest : List ℕ). more.front ++ packet_start ∷ rest) (sym (append-nil (text ++ byte ∷ [])));
      can = record {
        plain = list_all-append is_plain text (byte ∷ [])
            ∙ and_from (list_all is_plain text) (list_all is_plain (byte ∷ [])) open_.can.plain
            (and_from (is_plain byte) true plain refl);
        fits = omega arith;
      };
    }

opens : (bytes : List ℕ) (byte : ℕ) → (byte == packet_start) ≡ true → FrameTells (bytes ++ byte ∷ []) at_body_start
opens bytes byte is = record {
  front = bytes;
  bytes_are = ap (λ (last : ℕ). bytes ++ last ∷ []) (eqb-true byte packet_start is);
  can = record { plain = refl; fits = omega arith };
}

goes_longer : (bytes text : List ℕ) (byte : ℕ) → EndsOpen bytes text [] → (byte == packet_start) ≡ false → (byte == body_end) ≡ false
    → FrameTells (bytes ++ byte ∷ []) (longer_body text byte)
goes_longer bytes text byte open_ no_begin no_end =
    cond_both (ltb (length text) max_body) (record { position = position.Body; body = text ++ byte ∷ [] }) in_long_body
    (FrameTells (bytes ++ byte ∷ []))
    (λ room. longer bytes text byte open_ (not_from_false _ (or_from (byte == packet_start) (byte == body_end) no_begin no_end))
    (ltb-true (length text) max_body room))
    (λ full. tt)

one_byte : (stands : PacketPosition) (text bytes : List ℕ) (byte : ℕ) → Tells stands text bytes
    → FrameTells (bytes ++ byte ∷ []) (state_after_byte_at stands (record { position = stands; body = text }) byte)
one_byte position.Between text bytes byte told =
    cond_both (byte == packet_start) at_body_start (record { position = position.Between; body = text }) (FrameTells (bytes ++ byte ∷ []))
    (opens bytes byte) (λ no. tt)
one_byte position.Body text bytes byte told =
    cond_both (byte == packet_start) at_body_start
    (cond (byte == body_end) (record { position = position.FirstDigit; body = text }) (longer_body text byte))
    (FrameTells (bytes ++ byte ∷ [])) (opens bytes byte)
    (λ no_begin. cond_both (byte == body_end) (record { position = position.FirstDigit; body = text }) (longer_body text byte)
    (FrameTells (bytes ++ byte ∷ []))
    (λ ends. rw (← eqb-true byte body_end ends) (one_more bytes text [] byte told))
    (goes_longer bytes text byte told no_begin))
one_byte position.FirstDigit text bytes byte told = one_more bytes text (body_end ∷ []) byte told
one_byte (position.SecondDigit high) text bytes byte told = tt
one_byte position.LongBody text bytes byte told =
    cond_both (byte == packet_start) at_body_start
    (cond (byte == body_end) (record { position = position.LongFirstDigit; body = text }) (record { position = position.LongBody; body = text }))
    (FrameTells (bytes ++ byte ∷ [])) (opens bytes byte)
    (λ no_begin. cond_both (byte == body_end) (record { position = position.LongFirstDigit; body = text })
    (record { position = position.LongBody; body = text }) (FrameTells (bytes ++ byte ∷ [])) (λ ends. tt) (λ goes. tt))
one_byte position.LongFirstDigit text bytes byte told = tt
one_byte position.LongSecondDigit text bytes byte told = tt

frames_tell : (front rest : List ℕ) (frame : ReaderState) → FrameTells front frame
    → FrameTells (front ++ rest) (fold state_after_byte frame rest)
frames_tell front [] frame told = rw (append-nil front) told
frames_tell front (byte ∷ rest) frame told =
    rw (← append_assoc front (byte ∷ []) rest)
    (frames_tell (front ++ byte ∷ []) rest (state_after_byte frame byte) (one_byte frame.position frame.body front byte told))

no_signal : (byte : ℕ) (text : List ℕ) (sum : Checksum) → single_byte_item byte ≡ Some (heard.Packet text sum) → ⊥
no_signal byte text sum is = grind arith

was_sent : (stands : PacketPosition) (body bytes text : List ℕ) (byte : ℕ) (sum : Checksum) → Tells stands body bytes
    → item_in_state stands body byte ≡ Some (heard.Packet text sum) → EndsWithPacket (bytes ++ byte ∷ []) text sum
was_sent position.Between body bytes text byte sum told is = absurd (no_signal byte text sum is)
was_sent position.Body body bytes text byte sum told is = absurd (cc is)
was_sent position.FirstDigit body bytes text byte sum told is = absurd (cc is)
was_sent (position.SecondDigit high) body bytes text byte sum told is =
    let same : body ≡ text = cc in
    let more = one_more bytes body (body_end ∷ high ∷ []) byte told in record {
      front = more.front;
      high = high;
      low = byte;
      bytes_are = more.bytes_are ∙ ap (λ (t : List ℕ). more.front ++ packet_with_digits t high byte) same;
      can_be_sent = rw (← same) more.can;
      sum_is = let right : sum ≡ check_of_digits body high byte = cc in right ∙ ap (λ (t : List ℕ). check_of_digits t high byte) same;
    }
was_sent position.LongBody body bytes text byte sum told is = absurd (cc is)
was_sent position.LongFirstDigit body bytes text byte sum told is = absurd (cc is)
was_sent position.LongSecondDigit body bytes text byte sum told is = absurd (cc is)

pub heard_was_sent : (bytes text : List ℕ) (byte : ℕ) (sum : Checksum)
    → incoming_at (fold state_after_byte between_packets bytes) byte ≡ Some (heard.Packet text sum)
    → EndsWithPacket (bytes ++ byte ∷ []) text sum
heard_was_sent bytes text byte sum is =
    let last : ReaderState = fold state_after_byte between_packets bytes in
    was_sent last.position last.body bytes text byte sum (frames_tell [] bytes between_packets tt) is
