use Rattle.rv_text.specs.Spans.{span_text}
use Rattle.rv_text.proofs.Appended.{all_told, one_more}
use Rattle.rv_text.proofs.spans.push_spans.Goals as goal

pub loop-span-preserved : goal.loop-span-preserved
loop-span-preserved c =
    one_more span_text c.args.spans.now c.loop-span.span-index _ _ _ _ c.loop-span-test.true c.loop-span.invariant
    c.in_ok-push_span.ensures

pub returns : goal.returns
returns c =
    all_told span_text c.args.spans.now c.loop-span.span-index _ _ c.loop-span-test.false c.loop-span.invariant
