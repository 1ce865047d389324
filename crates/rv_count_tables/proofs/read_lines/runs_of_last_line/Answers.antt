-- The number of runs stands behind that of the images.
use Rattle.std.proofs.Common.{◌≡◌, ◌∙◌, ◌++◌, drop, ap, sym, arith}
use Rattle.std.proofs.lemmas.Bool.{both_ways}
use Rattle.std.specs.Cmp.Lexicographic.{bytes_decides}
use Rattle.rv_count_tables.specs.Lines.{text_before_byte, text_after_byte}
use Rattle.rv_count_tables.specs.Text.{last_line}
use Rattle.rv_count_tables.proofs.LineTexts.{runs_digits}
use Rattle.rv_count_tables.proofs.read_lines.runs_of_last_line.Goals as goal

pub returns-clause-none : goal.returns-clause-none
returns-clause-none c runs small is =
    let e : c.decimal_number-runs.result ≡ runs = c.decimal_number-runs.ensures runs small
    (c.text_before_byte.ensures ∙ ap (text_before_byte 10) (c.text_after_byte.ensures
    ∙ ap (text_after_byte 32) (c.tail_from-fields.ensures ∙ ap (drop 5) is))
    ∙ runs_digits c.args.image_count runs (let k = c.ranges.image_count.fits in omega (arith, k)) small) in
    let written = c.as_bytes.ensures.value ∙ c.in_ok-push_last_line.ensures
    ∙ ap (λ s. s ++ last_line c.args.image_count c.decimal_number-runs.result) c.new-text.ensures.bytes
    ∙ ap (last_line c.args.image_count) e in
    both_ways _ (sym c.if-eq.ensures) ((bytes_decides c.args.line.now c.as_bytes.result.now).1 (is ∙ sym written))
