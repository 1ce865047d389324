use Rattle.std.proofs.Common.{◌≡◌, ◌∙◌, ◌+◌, ◌-◌, ℕ, get_or, drop, ap, sym, arith}
use Rattle.rv_report.specs.LenientReport.{decimal_number_from, with_digit}
use Rattle.rv_report.proofs.FieldLoops.{number_step, number_end}
use Rattle.rv_report.proofs.fields.decimal_number.Goals as goal

pub loop-b-preserved : goal.loop-b-preserved
loop-b-preserved c =
    let text = c.args.text.now in
    let i = c.loop-b.b-index in
    let same : c.saturating_add-value.result ≡ with_digit 10 c.loop-b.value (get_or text i 0 - 48) = omega arith in
    ap (λ (v : ℕ). decimal_number_from v (drop (i + 1) text)) same ∙ sym (number_step c.loop-b.value text i (omega arith))
    ∙ c.loop-b.invariant

pub returns : goal.returns
returns c = sym (number_end c.loop-b.value c.args.text.now c.loop-b.b-index (omega arith)) ∙ c.loop-b.invariant
