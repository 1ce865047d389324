-- A session, and what it shows of its run.
use Rattle.std.specs.Prelude.{ℕ, [], ◌≡◌, ◌⊎◌, None, true, false, length}
use Rattle.rv_history.specs.Starts.{start_of}
use Rattle.rv_history.specs.declared.start.Start.{Start}
use Rattle.rv_history.specs.State.{State}
use Rattle.rv_gdb_protocol.specs.ReaderStates.{between_packets}
use Rattle.rv_gdb_protocol.specs.declared.stop.Stop.TheVariants as stop
use Rattle.rv_history.specs.Trace.{state_after}
use Rattle.rv_session.specs.declared.program.Program.{Program}
use Rattle.rv_session.specs.declared.session.Session.{Session}

-- the session at step 0 of the run from `start` within `budget`, before gdb has sent anything
abbrev pub at_start : Start → ℕ → Program → Session
at_start start budget program = record {
  reader = between_packets;
  history = record { start = start_of start; budget = budget; step = 0 };
  program = program;
  script = length start.bus.script;
  stops = record { breaks = []; watches = []; reads = []; accesses = [] };
  acknowledges = true;
  console_sent = 0;
  last_stop = stop.Trap;
  sent = [];
  requested = None;
  is_over = false;
}

-- the state of the session's run after `step` steps
abbrev pub state_at : Session → ℕ → State
state_at session step = state_after step session.history.start

-- the state at the session's current step
abbrev pub current_state : Session → State
current_state session = state_at session session.history.step

-- the session at the step `step` of its run
abbrev pub at_step : Session → ℕ → Session
at_step session step = record session { history = record session.history { step = step } }

-- if a move is requested, the session is not over
abbrev pub IsOpenIfRequested : Session → Type 0
IsOpenIfRequested session = (session.requested ≡ None) ⊎ (session.is_over ≡ false)

-- both sessions debug the same run: they have equal starts, budgets, programs and scripts
pub record IsSameRun (session next : Session) : Type 0 where
  pub start_is : next.history.start ≡ session.history.start
  pub budget_is : next.history.budget ≡ session.history.budget
  pub program_is : next.program ≡ session.program
  pub script_is : next.script ≡ session.script
