use Rattle.std.proofs.Common.{◌<◌, get_or, length, None, arith}
use Rattle.std.proofs.lemmas.List.{get_or_default}
use Rattle.std.proofs.lemmas.List.Edits.{map_over_more}
use Rattle.rv_lines.specs.SearchInside.{clear}
use Rattle.rv_lines.proofs.search.clear_all.Goals as goal

pub loop-k-preserved : goal.loop-k-preserved
loop-k-preserved c =
    let ys = c.loop-k.found in
    let k = c.loop-k.k in
    let x = get_or ys k None in
    let lt : k < length c.args.found.now = omega arith in
    let there : k < length ys = omega arith in
    map_over_more clear c.args.found.now ys k x lt c.loop-k.invariant (get_or_default ys k None x there)
