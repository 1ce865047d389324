use Rattle.std.proofs.Common.{◌∙◌, ap, option_map}
use Rattle.rv_disasm.specs.Unsimulated.{row_view, rows32, unsimulated32}
use Rattle.rv_disasm.proofs.Rows.{copied_row}
use Rattle.rv_disasm.proofs.unsimulated.unsimulated32.Goals as goal

pub returns : goal.returns
unfolding unsimulated32
returns c =
    ap (option_map row_view) c.copied.ensures
    ∙ copied_row c.args.word c.rows32.result.now rows32 c.find_row.result c.find_row.ensures c.rows32.ensures
