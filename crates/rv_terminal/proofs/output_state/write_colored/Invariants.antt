use Rattle.std.proofs.Common.{◌≡◌, ◌≤◌, ◌-◌, fold, length, take}
use Rattle.std.specs.Io.KnownBytes.{Appends}
use Rattle.rv_terminal.specs.Colors.{colored, position_after}
use Rattle.rv_terminal.proofs.output_state.write_colored.Given as goal

abbrev pub invariant-loop-at : goal.invariant-loop-at
invariant-loop-at g l = record {
  within : l.at ≤ length l.bytes;
  here : l.here ≡ fold position_after l.fn.position (take l.at l.bytes);
  shown : Appends (g.S.Sink.accepted l.initial.sink) (g.S.Sink.accepted l.sink) (colored l.fn.position (take l.at l.bytes));
  counted : g.S.Sink.failure_count l.sink ≡ g.S.Sink.failure_count l.initial.sink;
}

abbrev pub decreases-loop-at : goal.decreases-loop-at
decreases-loop-at g l = length l.bytes - l.at
