use Rattle.std.proofs.Common.{◌≡◌, ◌++◌, take}
use Rattle.std.specs.List.{flat_map}
use Rattle.rv_text.specs.Spans.{span_text}
use Rattle.rv_text.proofs.spans.push_spans.Given as goal

abbrev pub invariant-loop-span : goal.invariant-loop-span
invariant-loop-span l =
    l.bytes.items ≡ l.fn.bytes.items ++ flat_map span_text (take l.span-index l.spans)
