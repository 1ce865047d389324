use Rattle.std.proofs.Common.{◌≡◌, ◌∙◌, refl, sym, bytes_eq}
use Rattle.std.proofs.lemmas.Slice.Eq.{bytes_eq-Decides}
use Rattle.std.proofs.lemmas.Bool.Decides.{not_from_Decides}
use Rattle.rv_expect.proofs.References.{other_line, read_line, same_line, unread_line}
use Rattle.rv_expect.proofs.reference.word_of_line.Goals as goal

pub returns-then-is_err : goal.returns-then-is_err
returns-then-is_err c =
    sym (unread_line c.args.line.now c.decode_to_slice.new.out c.decode_to_slice.result _ refl
    c.decode_to_slice.ensures.value (sym c.is_err.ensures.value ∙ c.if-is_err.true))

pub returns-then-eq : goal.returns-then-eq
returns-then-eq c =
    let line = c.args.line.now in
    let written = c.as_slice.result.now in
    let same : line ≡ written = (bytes_eq-Decides line written).0 (sym c.eq.ensures ∙ c.if-eq.true) in
    sym (read_line line c.decode_to_slice.new.out c.decode_to_slice.result _ refl c.decode_to_slice.ensures.value
    (sym c.is_err.ensures.value ∙ c.if-is_err.false)
    ∙ same_line line c.decode_to_slice.new.out c.from_be_bytes-word.result c.from_be_bytes-word.ensures
    (same ∙ c.as_slice.ensures ∙ c.word_line.ensures))

pub returns-else-eq : goal.returns-else-eq
returns-else-eq c =
    let line = c.args.line.now in
    let written = c.as_slice.result.now in
    let other = not_from_Decides (bytes_eq line written) (bytes_eq-Decides line written)
    (sym c.eq.ensures ∙ c.if-eq.false) in
    sym (read_line line c.decode_to_slice.new.out c.decode_to_slice.result _ refl c.decode_to_slice.ensures.value
    (sym c.is_err.ensures.value ∙ c.if-is_err.false)
    ∙ other_line line c.decode_to_slice.new.out c.from_be_bytes-word.result c.from_be_bytes-word.ensures
    (λ e. other (e ∙ sym (c.as_slice.ensures ∙ c.word_line.ensures))))
