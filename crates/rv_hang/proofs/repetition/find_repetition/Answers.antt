use Rattle.std.proofs.Common.{◌≡◌, ◌∙◌, ◌+◌, ◌-◌, ℕ, Option, is_some, ap, sym, subst, arith}
use Rattle.std.proofs.Math.Dec.{ltb}
use Rattle.std.proofs.lemmas.Bool.{both_ways}
use Rattle.rv_trace.specs.Machine.{state_of}
use Rattle.rv_trace.specs.Trace.{state_after}
use Rattle.rv_trace.proofs.Public.{after_more, completes}
use Rattle.rv_hang.specs.declared.repetition.MatchingSteps.{MatchingSteps}
use Rattle.rv_hang.proofs.Cycles.{Known, is_known, known_first, known_more, repetition_of}
use Rattle.rv_hang.proofs.Waits.{Waited, wait_told, waited_first, waited_more}
use Rattle.rv_hang.proofs.repetition.find_repetition.Goals as goal

pub loop-step-init : goal.loop-step-init
loop-step-init c = record {
  reached = sym (ap (λ r. r.state) c.run.ensures);
  known = known_first c.args.end.now (c.args.steps - c.min.result) (state_of c.args.machine);
  waited = waited_first (c.args.steps - c.min.result) (state_of c.args.machine);
}

pub loop-step-preserved : goal.loop-step-preserved
loop-step-preserved c =
    let s = state_of c.args.machine in
    let step = c.loop-step.step in
    let begin = c.args.steps - c.min.result in
    let complete = c.requires.all_steps_run in
    let reached = c.loop-step.invariant.reached in
    let known = known_more c.args.end.now begin step s (state_of c.loop-step.ahead) reached c.loop-step.matching
    (omega arith) c.loop-step.invariant.known in
    let waited = waited_more begin step s (state_of c.loop-step.ahead) reached c.loop-step.waited
    c.loop-step.invariant.waited in
    record {
      reached = sym (ap (λ r. r.state) c.run-in-loop-step.ensures) ∙ ap (state_after 1) reached
          ∙ sym (after_more step 1 s (completes c.args.steps step s (omega arith)));
      known = subst (λ (a : Option MatchingSteps). Known c.args.end.now begin (step + 1) s a) (sym c.matching_steps_at-matching.ensures) known;
      waited = subst (λ (w : ℕ). Waited begin (step + 1) s w) (sym c.waits_up_to-waited.ensures) waited;
    }

pub returns-in_err-matching-clause-some_if_near : goal.returns-in_err-matching-clause-some_if_near
returns-in_err-matching-clause-some_if_near c = λ step l last.
    let s = state_of c.args.machine in
    let end : c.loop-step.step ≡ c.args.steps = omega arith in
    let known = subst (λ (k : ℕ). Known c.args.end.now (c.args.steps - c.min.result) k s c.loop-step.matching) end
    c.loop-step.invariant.known in
    let some = is_known c.args.end.now (c.args.steps - c.min.result) c.args.steps step s c.loop-step.matching
    c.requires.end known (omega (arith, c.min.ensures)) last in
    absurd (both_ways (is_some c.loop-step.matching) (ap is_some c.in_err-matching.was) some)

pub returns-clause-repetition : goal.returns-clause-repetition
returns-clause-repetition c =
    let s = state_of c.args.machine in
    let end : c.loop-step.step ≡ c.args.steps = omega arith in
    let known = subst (λ (k : ℕ). Known c.args.end.now (c.args.steps - c.min.result) k s c.loop-step.matching) end
    c.loop-step.invariant.known in
    repetition_of c.args.end.now (c.args.steps - c.min.result) c.args.steps s c.in_ok-matching.matching
    (ltb c.in_ok-matching.matching.first c.loop-step.waited) c.requires.all_steps_run
    c.requires.end (subst (λ (a : Option MatchingSteps). Known c.args.end.now (c.args.steps - c.min.result) c.args.steps s a)
    c.in_ok-matching.was known)

pub returns-clause-waits : goal.returns-clause-waits
returns-clause-waits c =
    let s = state_of c.args.machine in
    let begin = c.args.steps - c.min.result in
    let end : c.loop-step.step ≡ c.args.steps = omega arith in
    let known = subst (λ (a : Option MatchingSteps). Known c.args.end.now begin c.loop-step.step s a) c.in_ok-matching.was
    c.loop-step.invariant.known in
    wait_told begin c.args.steps c.in_ok-matching.matching.first (c.args.steps - c.in_ok-matching.matching.last) c.loop-step.waited s
    known.some.3 (subst (λ (k : ℕ). Waited begin k s c.loop-step.waited) end c.loop-step.invariant.waited)

pub overflow_sub-result : goal.overflow_sub-result
overflow_sub-result c =
    let known = subst (λ (a : Option MatchingSteps). Known c.args.end.now (c.args.steps - c.min.result) c.loop-step.step
    (state_of c.args.machine) a) c.in_ok-matching.was c.loop-step.invariant.known in
    let last = known.some.1.before in omega arith
