use Rattle.std.proofs.Common.{◌≡◌, ◌<◌, ℕ, get_or, length}
use Rattle.rv_machine.specs.Machine.{state_of}
use Rattle.rv_machine.specs.State.{register}
use Rattle.rv_trace.proofs.trace.registers_of.Given as goal

abbrev pub invariant-loop-n : goal.invariant-loop-n
invariant-loop-n l = record {
  whole : length l.registers ≡ 32;
  read : (k : ℕ) → k < l.n → get_or l.registers k 0 ≡ register (state_of l.machine) k;
}
