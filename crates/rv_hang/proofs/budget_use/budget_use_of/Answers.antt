use Rattle.std.proofs.Common.{◌≡◌, [], subst, true}
use Rattle.rv_trace.specs.Jobs.{single_job}
use Rattle.rv_trace.specs.Machine.{state_of}
use Rattle.rv_trace.specs.Run.{run_of}
use Rattle.rv_trace.specs.State.{State}
use Rattle.rv_trace.specs.Trace.{state_after}
use Rattle.rv_hang.specs.Repetition.{has_values}
use Rattle.rv_hang.proofs.Starts.{no_start, one_start}
use Rattle.rv_hang.proofs.budget_use.budget_use_of.Goals as goal

pub returns-in-Err : goal.returns-in-Err
returns-in-Err c = λ d s e h. no_start _ s c.in-Err.field-0 e (rw c.in-Err.is at (c.in_ok-machine.ensures d))

pub returns-in_default : goal.returns-in_default
returns-in_default c = λ d s e h.
    c.in_default.ensures (subst (λ (t : State). (run_of c.args.steps t).steps ≡ c.args.steps)
    (one_start _ s (state_of c.in-Ok.machine) e (rw c.in-Ok.is at (c.in_ok-machine.ensures d))) h)

pub budget_use-requires-clause-all_steps_run : goal.budget_use-requires-clause-all_steps_run
budget_use-requires-clause-all_steps_run c =
    let d = single_job [] 0 [] in
    subst (λ (t : State). (run_of c.args.steps t).steps ≡ c.args.steps)
    (one_start _ (state_of c.in-Ok.machine) (state_of c.in-Ok-2.machine)
    (rw c.in-Ok.is at (c.in_ok-machine.ensures d)) (rw c.in-Ok-2.is at (c.in_ok-machine-2.ensures d)))
    c.in-Some.ensures.0

pub budget_use-requires-clause-end : goal.budget_use-requires-clause-end
budget_use-requires-clause-end c =
    let d = single_job [] 0 [] in
    subst (λ (t : State). has_values c.in-Some.end (state_after c.args.steps t) ≡ true)
    (one_start _ (state_of c.in-Ok.machine) (state_of c.in-Ok-2.machine)
    (rw c.in-Ok.is at (c.in_ok-machine.ensures d)) (rw c.in-Ok-2.is at (c.in_ok-machine-2.ensures d)))
    c.in-Some.ensures.1

pub returns-in-Ok-2 : goal.returns-in-Ok-2
returns-in-Ok-2 c = λ d.
    let s = state_of c.in-Ok-2.machine in
    let started = rw c.in-Ok-2.is at (c.in_ok-machine-2.ensures d) in
    let complete = subst (λ (t : State). (run_of c.args.steps t).steps ≡ c.args.steps)
    (one_start _ (state_of c.in-Ok.machine) s (rw c.in-Ok.is at (c.in_ok-machine.ensures d)) started)
    c.in-Some.ensures.0 in
    (s, started, complete, c.budget_use.ensures)

pub returns-in-Err-2 : goal.returns-in-Err-2
returns-in-Err-2 c = λ d s e h. no_start _ s c.in-Err-2.field-0 e (rw c.in-Err-2.is at (c.in_ok-machine-2.ensures d))
