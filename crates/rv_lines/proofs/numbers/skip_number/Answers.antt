use Rattle.std.proofs.Common.{◌∙◌, sym, ap, Ok}
use Rattle.rv_lines.specs.Numbers.{skip_number, end_or}
use Rattle.rv_lines.proofs.Leb.{unsigned_none, unsigned_some}
use Rattle.rv_lines.proofs.numbers.skip_number.Goals as goal

pub returns-in_default : goal.returns-in_default
unfolding skip_number
returns-in_default c = ap (end_or c.args.cut) (unsigned_none c.args.bytes.now _ c.last_byte.ensures c.in_default.is)

pub returns : goal.returns
unfolding skip_number
returns c = ap (end_or c.args.cut) (unsigned_some c.args.bytes.now _ c.in-Some.last c.last_byte.ensures c.in-Some.is)
    ∙ ap Ok (sym c.bytes_from.ensures)
