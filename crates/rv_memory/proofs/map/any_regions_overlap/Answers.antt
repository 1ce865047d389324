use Rattle.std.proofs.Common.{◌+◌, ◌||◌, ◌∙◌, ap, sym, get_or, drop, arith}
use Rattle.std.specs.List.{list_any}
use Rattle.std.proofs.lemmas.List.{at_drop_more, take_all, length-drop}
use Rattle.rv_memory.specs.Maps.{regions_overlap, any_regions_overlap}
use Rattle.rv_memory.specs.Inside.Map.{empty_slot}
use Rattle.rv_memory.proofs.map.any_regions_overlap.Goals as goal

pub loop-k-preserved : goal.loop-k-preserved
loop-k-preserved c =
    let rs = c.args.regions.now in
    let k = c.loop-k.k in
    ap (λ b. b || any_regions_overlap (drop (k + 1) rs))
    (sym c.if-overlaps_any.false ∙ c.overlaps_any.ensures
    ∙ ap (list_any (regions_overlap (get_or rs k empty_slot)))
    (take_all _ (drop (k + 1) rs) (omega (arith, length-drop (k + 1) rs))))
    ∙ sym (at_drop_more any_regions_overlap rs k empty_slot (omega arith)) ∙ c.loop-k.invariant
