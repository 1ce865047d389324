use Rattle.std.proofs.Common.{◌∙◌, sym, arith}
use Rattle.rv_report.proofs.FieldLoops.{hex_no, hex_yes, hex_end}
use Rattle.rv_report.proofs.fields.are_hex_digits.Goals as goal

pub returns-then-not-is_hex_digit : goal.returns-then-not-is_hex_digit
returns-then-not-is_hex_digit c = sym (hex_no c.args.text.now c.loop-b.b-index (omega arith) (sym c.is_hex_digit.ensures ∙ c.if-not-is_hex_digit.true)) ∙ c.loop-b.invariant

pub loop-b-preserved : goal.loop-b-preserved
loop-b-preserved c = sym (hex_yes c.args.text.now c.loop-b.b-index (omega arith) (sym c.is_hex_digit.ensures ∙ c.if-not-is_hex_digit.false)) ∙ c.loop-b.invariant

pub returns : goal.returns
returns c = sym (hex_end c.args.text.now c.loop-b.b-index (omega arith)) ∙ c.loop-b.invariant
