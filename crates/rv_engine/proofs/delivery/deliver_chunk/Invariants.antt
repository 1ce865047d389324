use Rattle.std.proofs.Common.{◌≡◌, ◌+◌, ◌*◌, ◌++◌, length, min}
use Rattle.std.specs.Vec.Iter.{into_iter_items, into_iter_len}
use Rattle.rv_engine.specs.Results.{HasReceived}
use Rattle.rv_engine.proofs.delivery.deliver_chunk.Given as goal

abbrev pub invariant-loop-made : goal.invariant-loop-made
invariant-loop-made g l = record {
  received : HasReceived g.J.RunSpec.is_result g.J.RunSpec.jobs (g.L.Listener.has_received l.listener)
      (min (l.chunk * g.J.RunSpec.group) g.J.RunSpec.jobs + length l.yielded);
  goes : g.L.Listener.stops l.listener → ⊥;
  front : l.yielded ++ into_iter_items l.made-iterator ≡ into_iter_items l.initial.made-iterator;
  left : into_iter_len l.made-iterator ≡ length (into_iter_items l.made-iterator);
}
