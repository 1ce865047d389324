use Rattle.rv_engine.specs.Results.{ArePending, HasReceivedUpTo}
use Rattle.rv_engine.proofs.engine.deliver_from.Given as goal

abbrev pub invariant-loop-piece : goal.invariant-loop-piece
invariant-loop-piece g l = record {
  pending : ArePending g.J.RunSpec.is_result g.J.RunSpec.jobs g.J.RunSpec.group l.pending.items;
  received : HasReceivedUpTo g.J.RunSpec.is_result g.J.RunSpec.jobs g.J.RunSpec.group (g.L.Listener.has_received l.listener) (g.L.Listener.stops l.listener) l.piece;
  worker_state : g.W.Work.is_worker_state l.work l.worker_state;
}
