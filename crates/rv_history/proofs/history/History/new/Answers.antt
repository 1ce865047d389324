use Rattle.std.proofs.Common.{arith}
use Rattle.rv_trace.specs.Machine.{state_of}
use Rattle.rv_history.specs.Starts.{start_of}
use Rattle.rv_history.proofs.Reaching.{at_start}
use Rattle.rv_history.proofs.history.History.new.Goals as goal

pub invariant_of-result : goal.invariant_of-result
invariant_of-result c = rw c.new.ensures
    (at_start (start_of c.args.start) (state_of c.in_ok-machine.machine) c.in_ok-machine.ensures, omega arith)
