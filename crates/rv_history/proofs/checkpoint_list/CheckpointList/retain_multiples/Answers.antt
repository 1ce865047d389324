use Rattle.std.proofs.Common.{◌%◌, ◌==◌, arith, rules}
use Rattle.rv_history.specs.declared.machine_at.MachineAt.{MachineAt}
use Rattle.rv_history.proofs.CurrentVerdict.{falling_some}
use Rattle.rv_history.proofs.checkpoint_list.CheckpointList.retain_multiples.Goals as goal

pub invariant_of-self : goal.invariant_of-self
invariant_of-self c = (
  c.self.invariant.0,
  (
    let fewer = c.retain.ensures.bound in let few = c.self.invariant.1.0 in omega (arith, fewer, few),
    falling_some _ (λ (other : MachineAt). (other.step % c.args.number) == 0) _ (λ x b f k. search rules) _ _
        c.retain.ensures.filtered c.self.invariant.1.1,
  ),
)
