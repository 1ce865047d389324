use Rattle.std.proofs.Common.{◌∙◌, sym, ap, Ok, arith}
use Rattle.rv_lines.specs.Numbers.{number_at, number_or}
use Rattle.rv_lines.proofs.Leb.{unsigned_none, unsigned_some, number_small, number_large}
use Rattle.rv_lines.proofs.numbers.number_at.Goals as goal

pub returns-in_default : goal.returns-in_default
unfolding number_at
returns-in_default c = ap (number_or c.args.cut) (unsigned_none c.args.bytes.now _ c.last_byte.ensures c.in_default.is)

pub returns-then-value-ge-OUT_OF_RANGE : goal.returns-then-value-ge-OUT_OF_RANGE
unfolding number_at
returns-then-value-ge-OUT_OF_RANGE c =
    ap (number_or c.args.cut) (unsigned_some c.args.bytes.now _ c.in-Some.last c.last_byte.ensures c.in-Some.is)
    ∙ number_large c.args.cut _ c.digits_value-value.result _ c.digits_value-value.ensures (omega arith)

pub returns : goal.returns
unfolding number_at
returns c =
    ap (number_or c.args.cut) (unsigned_some c.args.bytes.now _ c.in-Some.last c.last_byte.ensures c.in-Some.is)
    ∙ number_small c.args.cut _ c.digits_value-value.result _ c.digits_value-value.ensures (omega arith)
    ∙ ap (λ r. Ok (c.digits_value-value.result, r)) (sym c.bytes_from.ensures)
