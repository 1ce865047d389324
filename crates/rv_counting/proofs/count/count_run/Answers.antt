-- A new counter counts the run alone.
use Rattle.rv_trace.specs.Machine.{state_of}
use Rattle.rv_counting.proofs.count.count_run.Goals as goal

pub follow_run-requires-clause-right : goal.follow_run-requires-clause-right
follow_run-requires-clause-right c = (c.in_ok-counter.ensures.counting c.args.budget (state_of c.args.machine)).right
