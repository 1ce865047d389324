use Rattle.std.proofs.Common.{◌≡◌, ◌∙◌, ap, codes, drop, false, sym, Some}
use Rattle.std.specs.Fmt.{decimal}
use Rattle.rv_diff.specs.Change.{have_same_console}
use Rattle.rv_rows.specs.Printable.{printable_value}
use Rattle.rv_diff.specs.Differences.{console_change_text, first_differing_index}
use Rattle.rv_diff.proofs.Told.{byte_told, told}
use Rattle.rv_diff.proofs.differences.push_console_change.Goals as goal

pub returns-in-Some : goal.returns-in-Some
unfolding console_change_text
returns-in-Some c =
    let place = c.in-Some.place in
    let differ : have_same_console c.args.old_row.now c.args.new_row.now ≡ false = sym c.have_same_console.ensures ∙ c.if-have_same_console.false in
    let first : first_differing_index c.args.old_row.now.console c.args.new_row.now.console ≡ Some place =
    (λ i. first_differing_index (sym c.as_slice-before.ensures i) (sym c.as_slice-after.ensures i))
    ∙ sym c.first_differing_byte.ensures ∙ c.in-Some.is in
    rw (
      differ,
      first,
      ← (c.tail_from.ensures ∙ ap (drop place) c.as_slice-before.ensures),
      ← (c.tail_from-in-Some.ensures ∙ ap (drop place) c.as_slice-after.ensures),
      ← c.as_str.ensures,
    )
    (told c.push_spans.result c.args.text.now.items c.push_spans.new.bytes.items _ _
    (byte_told (codes "! ") c.as_str.result.now (codes ": ") (codes "console ") (codes "byte ")
    (decimal place) (codes "\"") (printable_value c.tail_from.result.now) (codes " -> ")
    (printable_value c.tail_from-in-Some.result.now) (codes "\n")) c.push_spans.ensures)
