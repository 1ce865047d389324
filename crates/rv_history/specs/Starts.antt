-- The state at a start.
use Rattle.rv_trace.specs.State.{State, reset_state}
use Rattle.rv_history.specs.declared.start.Start.{Start}

-- the state of a hart at reset with the bus, the entry address and the instruction set of a start
abbrev pub start_of : Start → State
start_of start = reset_state start.bus start.entry start.isa
