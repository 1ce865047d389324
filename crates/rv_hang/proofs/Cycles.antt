-- A state that comes again comes again forever; and what is known of states on the way.
use Rattle.std.proofs.Common.{◌≡◌, ◌∙◌, ◌+◌, ◌-◌, ◌<◌, ◌≤◌, ℕ, zero, suc, Bool, true, false, cond, ◌==◌, List, Option, Some, None, Result, Ok, Err}
use Rattle.std.proofs.Common.{sym, ap, refl, subst, arith, IfSome, is_some, ◌⊎◌, inl, inr}
use Rattle.std.proofs.lemmas.Bool.{and_from, and_parts, both_ways, eq-eqb, eqb-true}
use Rattle.std.proofs.lemmas.Slice.Eq.{bytes_eq-Decides}
use Rattle.std.specs.Str.{bytes_eq}
use Rattle.rv_trace.specs.declared_ending.Ending.{Ending}
use Rattle.rv_trace.specs.declared_ending.Ending.TheVariants.{Budget}
use Rattle.rv_trace.specs.Run.{run_after_step, run_of, step_of}
use Rattle.rv_trace.specs.State.{State}
use Rattle.rv_trace.specs.Trace.{state_after}
use Rattle.rv_trace.proofs.Public.{after_more, completes, each_completes, steps_more}
use Rattle.rv_hang.specs.Quiet.{is_step_quiet}
use Rattle.rv_hang.specs.Repetition.{AreQuietSteps, RepeatsAtEnd, IsRepetition, matching_steps_after, first_matching, has_values}
use Rattle.rv_hang.specs.declared.hart.HartValues.{HartValues}
use Rattle.rv_hang.specs.declared.repetition.MatchingSteps.{MatchingSteps}
use Rattle.rv_hang.specs.declared.repetition.Repetition.{Repetition}
use Rattle.rv_hang.proofs.QuietSteps.{Same, step_same}

pub order : (m n : ℕ) → (m < n) ⊎ (n ≤ m)
order zero zero = inr (omega arith)
order zero (suc n) = inl (omega arith)
order (suc m) zero = inr (omega arith)
order (suc m) (suc n) = elim (order m n) [ inl l ↦ inl (omega arith) | inr l ↦ inr (omega arith) ]

-- ---- a run that comes again

used_rest : (n : ℕ) (s : State) (r : Result State Ending)
    → ((t : State) → (run_of n t).steps ≡ n → (run_of n t).ending ≡ Budget)
    → (run_after_step r s (λ t. run_of n t)).steps ≡ suc n → (run_after_step r s (λ t. run_of n t)).ending ≡ Budget
used_rest n s (Ok t) rest h = rest t (omega arith)
used_rest n s (Err e) rest h = absurd (omega arith)

-- a run that completes as many steps as its budget has used it up
all_used : (n : ℕ) (s : State) → (run_of n s).steps ≡ n → (run_of n s).ending ≡ Budget
unfolding run_of
all_used zero s h = refl
all_used (suc n) s h = used_rest n s (step_of s) (λ t k. all_used n t k) h

module _ (steps : ℕ) (s : State) (r : Repetition) (complete : (run_of steps s).steps ≡ steps)
    (matching : IsRepetition steps s r) where
  within_steps : (k : ℕ) → k ≤ steps → (run_of k s).steps ≡ k
  within_steps k h = completes steps k s (omega arith)

  -- one period more
  one_more : (n : ℕ) → (run_of (r.begin + n) s).steps ≡ r.begin + n
      → (run_of (r.begin + r.period + n) s).steps ≡ r.begin + r.period + n
  one_more n h =
      let once = steps_more r.begin n s (within_steps r.begin (let w = matching.within in omega arith)) in
      let twice = steps_more (r.begin + r.period) n s (within_steps (r.begin + r.period) matching.within) in
      let same = ap (λ t. (run_of n t).steps) matching.matching in omega arith

  beyond : (budget : ℕ) → ((k : ℕ) → k < budget → (run_of k s).steps ≡ k) → (steps < budget) ⊎ (budget ≤ steps)
      → (run_of budget s).steps ≡ budget
  beyond budget rest (inr l) = within_steps budget l
  beyond budget rest (inl l) =
      let w = matching.within in let p = matching.some in
      let n = budget - (r.begin + r.period) in
      let sum : r.begin + r.period + n ≡ budget = omega arith in
      subst (λ (k : ℕ). (run_of k s).steps ≡ k) sum (one_more n (rest (r.begin + n) (omega arith)))

  all_steps : (fuel budget : ℕ) → budget ≤ fuel → (run_of budget s).steps ≡ budget
  all_steps zero budget h = within_steps budget (omega arith)
  all_steps (suc fuel) budget h = beyond budget (λ k l. all_steps fuel k (omega arith)) (order steps budget)

  pub never_ends : (budget : ℕ) → ((run_of budget s).ending ≡ Budget) × ((run_of budget s).steps ≡ budget)
  never_ends budget = let all = all_steps budget budget (omega arith) in (all_used budget s all, all)

-- ---- quiet steps

both_same : (s t u : State) → Same s t → Same t u → Same s u
both_same s t u p q = (q.0 ∙ p.0, q.1 ∙ p.1)

-- between two places
quiet_same : (steps step n : ℕ) (s : State) → (run_of steps s).steps ≡ steps → step + n ≤ steps
    → AreQuietSteps step (step + n) s → Same (state_after step s) (state_after (step + n) s)
quiet_same steps step zero s complete h quiet =
    let none : step ≡ step + zero = omega arith in
    (ap (λ k. (state_after k s).bus) (sym none), ap (λ k. (state_after k s).isa) (sym none))
quiet_same steps step (suc n) s complete h quiet =
    let next : step + n + 1 ≡ step + suc n = omega arith in
    let completed = each_completes steps (step + n) s (omega arith) in
    let last = step_same (state_after (step + n) s) (state_after (step + n + 1) s)
    (quiet (step + n) (omega arith) (omega arith)) completed in
    subst (λ (k : ℕ). Same (state_after step s) (state_after k s)) next
    (both_same (state_after step s) (state_after (step + n) s) (state_after (step + n + 1) s)
    (quiet_same steps step n s complete (omega arith) (λ k l m. quiet k l (omega arith))) last)

same_lists : (a b : List ℕ) → bytes_eq a b ≡ true → a ≡ b
same_lists a b e = (bytes_eq-Decides a b).0 e

same_state : (s t : State) → s.pc ≡ t.pc → s.registers ≡ t.registers → Same s t → s ≡ t
same_state s t pc registers same =
    λ i. record { pc = pc i; registers = registers i; bus = sym same.0 i; isa = sym same.1 i }

-- ---- what is known in front of a place

-- a place before another one has these values, and no step between may change the bus
pub record IsBefore (values : HartValues) (p step : ℕ) (s : State) : Type 0 where
  pub before : p < step
  pub has : has_values values (state_after p s) ≡ true
  pub quiet : AreQuietSteps p step s

pub record Known (values : HartValues) (begin step : ℕ) (s : State) (matching : Option MatchingSteps) : Type 0 where
  pub some : IfSome matching (λ a. IsBefore values a.first step s × IsBefore values a.last step s × (a.first ≤ a.last)
      × (begin ≤ a.first))
  pub found : (p : ℕ) → begin ≤ p → IsBefore values p step s → is_some matching ≡ true

pub known_first : (values : HartValues) (begin : ℕ) (s : State) → Known values begin begin s None
known_first values begin s = record {
  some = tt;
  found = λ p l b. let before = b.before in absurd (omega arith);
}

module _ (values : HartValues) (begin step : ℕ) (s t : State) (here : t ≡ state_after step s) where
  quiet_here : AreQuietSteps step (step + 1) s → is_step_quiet t ≡ true
  quiet_here q = ap is_step_quiet here ∙ q step (omega arith) (omega arith)

  quiet_more : (p : ℕ) → is_step_quiet t ≡ true → AreQuietSteps p step s → AreQuietSteps p (step + 1) s
  quiet_more p q old k l m = elim (order k step) [
    | inl less ↦ old k l less
    | inr most ↦ let same : k ≡ step = omega arith in
        ap (λ j. is_step_quiet (state_after j s)) same ∙ sym (ap is_step_quiet here) ∙ q
  ]

  later : (p : ℕ) → is_step_quiet t ≡ true → IsBefore values p step s → IsBefore values p (step + 1) s
  later p q b = record {
    before = let l = b.before in omega arith;
    has = b.has;
    quiet = quiet_more p q b.quiet;
  }

  earlier : (p : ℕ) → p < step → IsBefore values p (step + 1) s → IsBefore values p step s
  earlier p l b = record { before = l; has = b.has; quiet = λ k m n. b.quiet k m (omega arith) }

  here_now : is_step_quiet t ≡ true → has_values values t ≡ true → IsBefore values step (step + 1) s
  here_now q h = record {
    before = omega arith;
    has = sym (ap (has_values values) here) ∙ h;
    quiet = λ k l m. (let same : k ≡ step = omega arith in
        ap (λ j. is_step_quiet (state_after j s)) same ∙ sym (ap is_step_quiet here) ∙ q);
  }

  none_quiet : is_step_quiet t ≡ false → Known values begin (step + 1) s None
  none_quiet q = record {
    some = tt;
    found = λ p l b. absurd (both_ways (is_step_quiet t) q
        (ap is_step_quiet here ∙ b.quiet step (let m = b.before in omega arith) (omega arith)));
  }

  with_values : (matching : Option MatchingSteps) → begin ≤ step → is_step_quiet t ≡ true → has_values values t ≡ true
      → Known values begin step s matching
      → Known values begin (step + 1) s (Some (record { first = first_matching matching step; last = step }))
  with_values None l q h known = record {
    some = (here_now q h, here_now q h, omega arith, l);
    found = λ p l b. refl;
  }
  with_values (Some a) l q h known = record {
    some = (
      later a.first q known.some.0,
      here_now q h,
      (let first = known.some.0.before in omega arith),
      known.some.3,
    );
    found = λ p l b. refl;
  }

  without_values : (matching : Option MatchingSteps) → is_step_quiet t ≡ true → has_values values t ≡ false
      → Known values begin step s matching → Known values begin (step + 1) s matching
  without_values matching q h known = record {
    some = some matching known.some;
    found = λ p l b. elim (order p step) [
      | inl less ↦ known.found p l (earlier p less b)
      | inr most ↦ let before = b.before in let same : p ≡ step = omega arith in
          absurd (both_ways (has_values values t) h
          (ap (has_values values) here ∙ ap (λ j. has_values values (state_after j s)) (sym same) ∙ b.has))
    ];
  }
    where
      some : (matching : Option MatchingSteps)
          → IfSome matching (λ a. IsBefore values a.first step s × IsBefore values a.last step s × (a.first ≤ a.last)
          × (begin ≤ a.first))
          → IfSome matching (λ a. IsBefore values a.first (step + 1) s × IsBefore values a.last (step + 1) s
          × (a.first ≤ a.last) × (begin ≤ a.first))
      some None k = tt
      some (Some a) k = (later a.first q k.0, later a.last q k.1, k.2, k.3)

  pub known_more : (matching : Option MatchingSteps) → begin ≤ step → Known values begin step s matching
      → Known values begin (step + 1) s (matching_steps_after matching step values t)
  known_more matching l known = by (is_step_quiet t) (has_values values t) refl refl
    where
      by : (q h : Bool) → is_step_quiet t ≡ q → has_values values t ≡ h
          → Known values begin (step + 1) s (cond q (cond h
          (Some (record { first = first_matching matching step; last = step })) matching) None)
      by false h e f = none_quiet e
      by true true e f = with_values matching l e f known
      by true false e f = without_values matching e f known

-- ---- the end

-- a place with the values of the last step, and no step between that may change the bus, has its state
last_again : (values : HartValues) (steps p : ℕ) (s : State) → (run_of steps s).steps ≡ steps
    → has_values values (state_after steps s) ≡ true → IsBefore values p steps s → state_after p s ≡ state_after steps s
last_again values steps p s complete end b =
    let u = state_after p s in let v = state_after steps s in
    let l = b.before in
    let here = and_parts (u.pc == values.pc) (bytes_eq u.registers values.registers) b.has in
    let there = and_parts (v.pc == values.pc) (bytes_eq v.registers values.registers) end in
    let sum : p + (steps - p) ≡ steps = omega arith in
    let same = subst (λ (k : ℕ). Same u (state_after k s)) sum
    (quiet_same steps p (steps - p) s complete (omega arith) (λ k m n. b.quiet k m (omega arith))) in
    same_state u v (eqb-true u.pc values.pc here.0 ∙ sym (eqb-true v.pc values.pc there.0))
    (same_lists u.registers values.registers here.1 ∙ sym (same_lists v.registers values.registers there.1)) same

pub repetition_of : (values : HartValues) (begin steps : ℕ) (s : State) (a : MatchingSteps) (waits : Bool)
    → (run_of steps s).steps ≡ steps
    → has_values values (state_after steps s) ≡ true → Known values begin steps s (Some a)
    → IsRepetition steps s (record { begin = a.first; period = steps - a.last; waits_for_input = waits })
repetition_of values begin steps s a waits complete end known =
    let first = known.some.0 in let last = known.some.1 in let rising = known.some.2 in
    let b = first.before in let l = last.before in
    let period = steps - a.last in
    let same_first = last_again values steps a.first s complete end first in
    let same_last = last_again values steps a.last s complete end last in
    let all : a.last + period ≡ steps = omega arith in
    record {
      some = omega arith;
      within = omega arith;
      matching = after_more a.first period s (completes steps a.first s (omega arith))
          ∙ ap (state_after period) (same_first ∙ sym same_last)
          ∙ sym (after_more a.last period s (completes steps a.last s (omega arith)))
          ∙ ap (λ k. state_after k s) all ∙ sym same_first;
    }

-- such a place is known
pub is_known : (values : HartValues) (begin steps p : ℕ) (s : State) (matching : Option MatchingSteps)
    → has_values values (state_after steps s) ≡ true → Known values begin steps s matching → begin ≤ p
    → RepeatsAtEnd steps p s → is_some matching ≡ true
is_known values begin steps p s matching end known l last =
    let u = state_after p s in let v = state_after steps s in
    let there = and_parts (v.pc == values.pc) (bytes_eq v.registers values.registers) end in
    known.found p l (record {
      before = last.before;
      has = and_from (u.pc == values.pc) (bytes_eq u.registers values.registers)
          (eq-eqb u.pc values.pc (last.pc ∙ eqb-true v.pc values.pc there.0))
          ((bytes_eq-Decides u.registers values.registers).1
          (last.registers ∙ same_lists v.registers values.registers there.1));
      quiet = last.quiet;
    })
