-- The parts of texts fit a packet.
use Rattle.std.proofs.Common.{◌≡◌, ◌∷◌, ◌+◌, ◌*◌, ◌≤◌, [], ℕ, List, arith, length, length-append, length-take, min, drop}
use Rattle.std.proofs.lemmas.Bool.{cond_both}
use Rattle.rv_gdb_protocol.specs.Escapes.{inverted, escape, escaped, escaped_byte, is_special}
use Rattle.rv_gdb_protocol.specs.ReaderStates.{max_body}
use Rattle.rv_gdb_protocol.specs.Replies.{max_part, part_of_rest, part_text}
use Rattle.rv_gdb_protocol.specs.declared.request.Part.{Part}

byte_twice : (byte : ℕ) → length (escaped_byte byte) ≤ 2
byte_twice byte = cond_both (is_special byte) (escape ∷ inverted byte ∷ []) (byte ∷ []) (λ text. length text ≤ 2) (λ is. omega arith) (λ is. omega arith)

-- escapes at most double a text
escaped_twice : (text : List ℕ) → length (escaped text) ≤ 2 * length text
escaped_twice [] = omega arith
escaped_twice (byte ∷ text) =
    let one = byte_twice byte in
    let rest = escaped_twice text in
    let both : length (escaped (byte ∷ text)) ≡ length (escaped_byte byte) + length (escaped text) = length-append (escaped_byte byte) (escaped text) in
    omega arith

rest_short : (rest : List ℕ) (count : ℕ) → length (part_of_rest rest count) ≤ 1 + count
rest_short rest count = grind (arith, length-take)

pub part_fits : (text : List ℕ) (part : Part) → length (escaped (part_text text part)) ≤ max_body
unfolding part_text
part_fits text part =
    let twice = escaped_twice (part_text text part) in
    let short = rest_short (drop part.offset text) (min part.count max_part) in
    omega arith
