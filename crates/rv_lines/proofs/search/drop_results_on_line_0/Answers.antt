use Rattle.std.proofs.Common.{◌≡◌, ◌∙◌, ◌<◌, ◌+◌, ◌++◌, sym, ap, subst, map, take, drop, set, get_or, length, Option, None, arith}
use Rattle.std.proofs.lemmas.List.{get_or_default}
use Rattle.std.proofs.lemmas.List.Edits.{map_over_more}
use Rattle.rv_lines.specs.declared.span.SourceLine.{SourceLine}
use Rattle.rv_lines.specs.SearchInside.{drop_line_0}
use Rattle.rv_lines.proofs.search.drop_results_on_line_0.Goals as goal

pub loop-k-preserved : goal.loop-k-preserved
loop-k-preserved c =
    let ys = c.loop-k.found in
    let k = c.loop-k.k in
    let x = get_or ys k None in
    let lt : k < length c.args.found.now = omega arith in
    let there : k < length ys = omega arith in
    let e : c.drop_line_0.result ≡ drop_line_0 x = c.drop_line_0.ensures ∙ ap drop_line_0 (get_or_default ys k _ None there) in
    subst (λ (v : Option SourceLine). set ys k v ≡ map drop_line_0 (take (k + 1) c.args.found.now) ++ drop (k + 1) c.args.found.now) (sym e)
    (map_over_more drop_line_0 c.args.found.now ys k x lt c.loop-k.invariant (get_or_default ys k None x there))
