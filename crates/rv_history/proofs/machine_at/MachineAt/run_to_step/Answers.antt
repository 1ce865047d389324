use Rattle.std.proofs.Common.{◌-◌, ap, arith}
use Rattle.rv_trace.specs.Machine.{state_of}
use Rattle.rv_history.proofs.Reaching.{run_from, within_budget}
use Rattle.rv_history.proofs.machine_at.MachineAt.run_to_step.Goals as goal

pub overflow_add-self : goal.overflow_add-self
overflow_add-self c =
    let few = within_budget (c.args.step - c.args.self.now.step) (state_of c.args.self.now.machine) in
    let steps = ap (λ r. r.steps) c.run-ran.ensures in
    omega (arith, few, steps, c.requires, c.ranges.step)

pub returns-clause-run : goal.returns-clause-run
returns-clause-run c = λ start at.
    run_from start (state_of c.args.self.now.machine) (state_of c.run-ran.new.self) c.args.self.now.step c.args.step
    c.run-ran.result.steps c.run-ran.result.ending at c.requires c.run-ran.ensures
