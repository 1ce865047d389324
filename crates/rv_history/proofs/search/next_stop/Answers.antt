use Rattle.rv_history.proofs.Unstopped.{ends_told}
use Rattle.rv_history.proofs.search.next_stop.Goals as goal

pub returns-then-is_empty-clause-stop : goal.returns-then-is_empty-clause-stop
returns-then-is_empty-clause-stop g c =
    ends_told c.args.stops.now c.args.checkpoints.now c.args.forward_move c.run_to_end.result (c.is_empty.ensures.0 c.if-is_empty.true)
    c.run_to_end.ensures.stop
