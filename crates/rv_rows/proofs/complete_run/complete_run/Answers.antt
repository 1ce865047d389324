use Rattle.std.proofs.Common.{◌∙◌, ◌≤◌, ◌-◌, ◌+◌, ℕ, ap, arith, subst, sym}
use Rattle.rv_machine.specs.Machine.{state_of}
use Rattle.rv_machine.specs.Run.{RunResult}
use Rattle.rv_rows.specs.Outcome.{outcome_of_run}
use Rattle.rv_rows.specs.declared.outcome.Outcome.{Outcome}
use Rattle.rv_rows.proofs.Loadables.{range_after_run}
use Rattle.rv_rows.proofs.RestsOfRuns.{rest_is, within_budget}
use Rattle.rv_rows.proofs.complete_run.complete_run.Goals as goal

pub ended_run-run-requires : goal.ended_run-run-requires
ended_run-run-requires c = range_after_run c.args.range _ _ _ c.run-run_outcome.ensures c.requires.range

pub overflow_add-run : goal.overflow_add-run
overflow_add-run c =
    let left = c.args.budget - c.args.steps in
    let few : c.ended_run-run.result.steps ≤ left =
    subst (λ (steps : ℕ). steps ≤ left)
    (ap (λ (ran : RunResult). ran.steps) c.run-run_outcome.ensures ∙ sym (ap (λ (o : Outcome). o.steps) c.ended_run-run.ensures.outcome))
    (within_budget left (state_of c.args.machine)) in
    omega (arith, few, c.requires.within, c.ranges.budget.fits)

pub returns-clause-outcome : goal.returns-clause-outcome
returns-clause-outcome c = λ start way.
    ap (λ (o : Outcome). record o { steps = o.steps + c.args.steps })
    (c.ended_run-run.ensures.outcome ∙ ap (λ (ran : RunResult). outcome_of_run ran c.args.range) (sym c.run-run_outcome.ensures))
    ∙ ap (λ (ran : RunResult). outcome_of_run ran c.args.range)
    (sym (rest_is c.args.budget c.args.steps start (state_of c.args.machine) way))
