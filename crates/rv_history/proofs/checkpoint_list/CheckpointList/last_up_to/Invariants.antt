use Rattle.std.proofs.Common.{◌<◌, take}
use Rattle.std.specs.List.{All}
use Rattle.rv_history.specs.declared.machine_at.MachineAt.{MachineAt}
use Rattle.rv_history.proofs.checkpoint_list.CheckpointList.last_up_to.Given as goal

abbrev pub invariant-loop-at : goal.invariant-loop-at
invariant-loop-at l = All (λ (other : MachineAt). l.step < other.step) (take l.at-index l.at-items)
