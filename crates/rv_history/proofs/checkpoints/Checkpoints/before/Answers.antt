use Rattle.std.proofs.Common.{arith}
use Rattle.rv_trace.specs.Machine.{state_of}
use Rattle.rv_history.specs.Starts.{start_of}
use Rattle.rv_history.proofs.Reaching.{at_start}
use Rattle.rv_history.proofs.checkpoints.Checkpoints.before.Goals as goal

pub returns : goal.returns
returns c = rw (← c.self.view_is)
    (at_start (start_of c.self.inside.start) (state_of c.in_ok-machine.machine) c.in_ok-machine.ensures, omega arith)
