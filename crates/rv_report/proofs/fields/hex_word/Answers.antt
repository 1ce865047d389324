use Rattle.std.proofs.Common.{◌≡◌, ◌∙◌, ◌-◌, ◌+◌, ℕ, sym, ap, arith}
use Rattle.rv_report.specs.LenientReport.{with_zero_digits, with_digit}
use Rattle.rv_report.proofs.FieldLoops.{shifted_step, shifted_end}
use Rattle.rv_report.proofs.fields.hex_word.Goals as goal

pub loop-preserved : goal.loop-preserved
loop-preserved c =
    let i = c.loop.counter in
    let same : c.saturating_mul-value.result ≡ with_digit 16 c.loop.value 0 = omega arith in
    record {
      rest = ap (λ (v : ℕ). with_zero_digits (8 - (i + 1)) v) same ∙ sym (shifted_step i c.loop.value (omega arith))
          ∙ c.loop.invariant.rest;
      within = omega arith;
    }

pub returns : goal.returns
returns c = sym (shifted_end c.loop.counter c.loop.value (omega arith)) ∙ c.loop.invariant.rest
