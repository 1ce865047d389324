use Rattle.std.proofs.Common.{◌∙◌, ap, option_map}
use Rattle.rv_disasm.specs.Unsimulated.{row_view, rows16, unsimulated16}
use Rattle.rv_disasm.proofs.Rows.{copied_row}
use Rattle.rv_disasm.proofs.unsimulated.unsimulated16.Goals as goal

pub returns : goal.returns
unfolding unsimulated16
returns c =
    ap (option_map row_view) c.copied.ensures
    ∙ copied_row c.args.half c.rows16.result.now rows16 c.find_row.result c.find_row.ensures c.rows16.ensures
