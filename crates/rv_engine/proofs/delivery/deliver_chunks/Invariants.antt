use Rattle.std.proofs.Common.{◌≤◌, max}
use Rattle.rv_engine.specs.Results.{ArePending, HasReceivedUpTo}
use Rattle.rv_engine.proofs.delivery.deliver_chunks.Given as goal

abbrev pub invariant-loop-next : goal.invariant-loop-next
invariant-loop-next g l = record {
  pending : ArePending g.J.RunSpec.is_result g.J.RunSpec.jobs g.J.RunSpec.group l.pending.items;
  received : HasReceivedUpTo g.J.RunSpec.is_result g.J.RunSpec.jobs g.J.RunSpec.group (g.L.Listener.has_received l.listener) (g.L.Listener.stops l.listener) l.next;
  low : l.from ≤ l.next;
  high : l.next ≤ max l.from l.end;
}
