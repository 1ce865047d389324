-- Each digit is one more.
use Rattle.std.proofs.Common.{◌≡◌, ◌∙◌, ◌+◌, ◌-◌, ◌^◌, ℕ, get_or, drop, ap, sym, arith}
use Rattle.rv_count_tables.specs.Lines.{hex_digit_value}
use Rattle.rv_count_tables.proofs.LineLoops.{word_step, word_end}
use Rattle.rv_count_tables.proofs.Words.{hex_number, with_digit, word_of-digits}
use Rattle.rv_count_tables.proofs.line_parts.hex_word.Goals as goal

pub loop-b-preserved : goal.loop-b-preserved
loop-b-preserved c =
    let text = c.args.digits.now in
    let i = c.loop-b.b-index in
    let same : c.saturating_add-value.result ≡ with_digit (2 ^ 32 - 1) 16 c.loop-b.value (hex_digit_value (get_or text i 0))
    = omega (arith, c.hex_digit_value.ensures) in
    ap (λ (v : ℕ). hex_number v (drop (i + 1) text)) same ∙ sym (word_step c.loop-b.value text i (omega arith))
    ∙ c.loop-b.invariant

pub returns : goal.returns
returns c word small is =
    sym (word_end c.loop-b.value c.args.digits.now c.loop-b.b-index (omega arith)) ∙ c.loop-b.invariant
    ∙ ap (hex_number 0) is ∙ word_of-digits word small
