-- Each part says its number.
use Rattle.std.proofs.Common.{◌∙◌, take, drop, ap, arith}
use Rattle.rv_count_tables.specs.Lines.{text_before_byte, text_after_byte}
use Rattle.rv_count_tables.proofs.Told.{same_entry}
use Rattle.rv_count_tables.proofs.LineTexts.{address_digits, begun_digits, taken_digits}
use Rattle.rv_count_tables.proofs.read_lines.counts_of_line.Goals as goal

pub returns : goal.returns
returns c counts h is =
    let taken = h.taken in
    let fits = h.fits in
    let numbers = c.tail_from-numbers.ensures ∙ ap (drop 9) is in
    same_entry (record { address = c.hex_word.result; executed = c.decimal_number.result; taken = c.decimal_number-2.result })
    counts
    (c.hex_word.ensures counts.address h.address (c.leading_bytes.ensures ∙ ap (take 8) is ∙ address_digits counts))
    (c.decimal_number.ensures counts.executed h.fits
    (c.text_before_byte.ensures ∙ ap (text_before_byte 32) numbers ∙ begun_digits counts h))
    (c.decimal_number-2.ensures counts.taken (omega (arith, taken, fits))
    (c.text_before_byte-2.ensures ∙ ap (text_before_byte 10) (c.text_after_byte.ensures
    ∙ ap (text_after_byte 32) numbers) ∙ taken_digits counts h))
