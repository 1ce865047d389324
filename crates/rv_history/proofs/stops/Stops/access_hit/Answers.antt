use Rattle.std.proofs.Common.{sym}
use Rattle.rv_trace.specs.Machine.{state_of}
use Rattle.rv_history.specs.Accesses.{access_at}
use Rattle.rv_history.proofs.Unstopped.{nothing_touched}
use Rattle.rv_history.proofs.stops.Stops.access_hit.Goals as goal

pub returns-then-have_no_access_watchpoints : goal.returns-then-have_no_access_watchpoints
returns-then-have_no_access_watchpoints c =
    sym (nothing_touched c.args.self.now (access_at (state_of c.args.machine.now))
    (c.have_no_access_watchpoints.ensures.0 c.if-have_no_access_watchpoints.true))
