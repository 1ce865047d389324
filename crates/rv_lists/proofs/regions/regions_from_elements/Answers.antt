use Rattle.std.proofs.Common.{◌∙◌, sym, arith}
use Rattle.rv_lists.proofs.Steps.{regions_more, regions_bad, regions_end}
use Rattle.rv_lists.proofs.regions.regions_from_elements.Goals as goal

pub returns-in-Err : goal.returns-in-Err
returns-in-Err c = λ _. sym c.loop-element.invariant
    ∙ regions_bad c.loop-element.regions.items c.args.elements.now c.loop-element.element-index c.element-item.result
    c.in-Err.what c.loop-element-test.true
    (rw (← c.element-item.is) (sym c.region_from_element.ensures ∙ c.in-Err.is))

pub loop-element-preserved : goal.loop-element-preserved
loop-element-preserved c =
    regions_more c.loop-element.regions.items c.args.elements.now c.loop-element.element-index c.element-item.result
    c.in-Ok.region c.push.new.self.items c.in_ok-push.ensures.items c.loop-element-test.true
    (rw (← c.element-item.is) (sym c.region_from_element.ensures ∙ c.in-Ok.is)) ∙ c.loop-element.invariant

pub returns : goal.returns
returns c = sym c.loop-element.invariant
    ∙ regions_end c.loop-element.regions.items c.args.elements.now c.loop-element.element-index (omega arith)
