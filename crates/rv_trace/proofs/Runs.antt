-- Runs with smaller budgets: their states are those on the way of the whole run.
use Rattle.std.proofs.Common.{◌≡◌, ◌∙◌, ◌≤◌, ◌<◌, ◌+◌, ◌-◌, ℕ, zero, suc, List, [], ◌∷◌}
use Rattle.std.proofs.Common.{refl, sym, ap, arith, zero-add, add-one}
use Rattle.std.proofs.Common.{Ok, Err, Result, inl, inr, get_or, length, ◌++◌, append_assoc, false, subst}
use Rattle.std.proofs.lemmas.List.{append-nil}
use Rattle.std.specs.Prelude.{◌⊎◌, ◌==◌, MatchBool, is_ok, not}
use Rattle.rv_machine.specs.declared.ending.Ending.{Ending}
use Rattle.rv_machine.specs.declared.ending.Ending.TheVariants.{Budget}
use Rattle.rv_machine.specs.State.{State}
use Rattle.rv_machine.specs.Run.{run_after_step, step_of, run_of}
use Rattle.rv_trace.specs.declared.step.TracedStep.{TracedStep}
use Rattle.rv_trace.specs.Steps.{steps_from, traced_step, step_then}
use Rattle.rv_trace.specs.Trace.{state_after}

-- ---- one step more in front

run_goes_on : (n : ℕ) (s t : State) → step_of s ≡ Ok t → run_of (suc n) s ≡ run_after_step (Ok t) s (λ u. run_of n u)
unfolding run_of
run_goes_on n s t e = ap (λ r. run_after_step r s (λ u. run_of n u)) e

run_ends : (n : ℕ) (s : State) (e : Ending) → step_of s ≡ Err e
    → run_of (suc n) s ≡ record { ending = e; steps = 0; state = s }
unfolding run_of
run_ends n s e is = ap (λ r. run_after_step r s (λ u. run_of n u)) is

pub after_first : (n : ℕ) (s t : State) → step_of s ≡ Ok t → state_after (suc n) s ≡ state_after n t
after_first n s t e = ap (λ r. r.state) (run_goes_on n s t e)

pub after_end : (n : ℕ) (s : State) (e : Ending) → step_of s ≡ Err e → state_after (suc n) s ≡ s
after_end n s e is = ap (λ r. r.state) (run_ends n s e is)

pub after_none : (s : State) → state_after 0 s ≡ s
unfolding run_of
after_none s = refl

pub steps_first : (n : ℕ) (s t : State) → step_of s ≡ Ok t → (run_of (suc n) s).steps ≡ suc (run_of n t).steps
steps_first n s t e = ap (λ r. r.steps) (run_goes_on n s t e) ∙ add-one (run_of n t).steps

steps_end : (n : ℕ) (s : State) (e : Ending) → step_of s ≡ Err e → (run_of (suc n) s).steps ≡ 0
steps_end n s e is = ap (λ r. r.steps) (run_ends n s e is)

pub steps_none : (s : State) → (run_of 0 s).steps ≡ 0
unfolding run_of
steps_none s = refl

-- by the first step, which completes or ends
by_step : (s : State) (P : Type 0) → ((t : State) → step_of s ≡ Ok t → P) → ((e : Ending) → step_of s ≡ Err e → P) → P
by_step s P ok err = elim (step_of s) as (λ r. step_of s ≡ r → P) [ Ok t ↦ ok t | Err e ↦ err e ] refl

-- ---- a smaller budget

-- so many steps as a run completes are completed within a budget of so many
pub completes : (budget k : ℕ) (s : State) → k ≤ (run_of budget s).steps → (run_of k s).steps ≡ k
completes budget zero s h = steps_none s
completes zero (suc k) s h = let none = steps_none s in absurd (omega arith)
completes (suc n) (suc k) s h = by_step s ((run_of (suc k) s).steps ≡ suc k)
    (λ t e. steps_first k s t e ∙ ap suc (completes n k t (let first = steps_first n s t e in omega arith)))
    (λ e is. let none = steps_end n s e is in absurd (omega arith))

-- the steps that follow are those of the state behind them
pub after_more : (m n : ℕ) (s : State) → (run_of m s).steps ≡ m → state_after (m + n) s ≡ state_after n (state_after m s)
after_more zero n s h = ap (λ k. state_after k s) (zero-add n) ∙ ap (state_after n) (sym (after_none s))
after_more (suc m) n s h = by_step s (state_after (suc m + n) s ≡ state_after n (state_after (suc m) s))
    (λ t e. let first = steps_first m s t e in let rest : (run_of m t).steps ≡ m = omega arith in
    let sum : suc m + n ≡ suc (m + n) = omega arith in
    ap (λ k. state_after k s) sum ∙ after_first (m + n) s t e ∙ after_more m n t rest
    ∙ ap (state_after n) (sym (after_first m s t e)))
    (λ e is. let none = steps_end m s e is in absurd (omega arith))

pub steps_more : (m n : ℕ) (s : State) → (run_of m s).steps ≡ m
    → (run_of (m + n) s).steps ≡ m + (run_of n (state_after m s)).steps
steps_more zero n s h = ap (λ k. (run_of k s).steps) (zero-add n) ∙ ap (λ u. (run_of n u).steps) (sym (after_none s))
    ∙ sym (zero-add (run_of n (state_after 0 s)).steps)
steps_more (suc m) n s h = by_step s ((run_of (suc m + n) s).steps ≡ suc m + (run_of n (state_after (suc m) s)).steps)
    (λ t e. let first = steps_first m s t e in let rest : (run_of m t).steps ≡ m = omega arith in
    let sum : suc m + n ≡ suc (m + n) = omega arith in
    let more = steps_more m n t rest in let here = steps_first (m + n) s t e in
    let same = ap (λ u. (run_of n u).steps) (after_first m s t e) in
    ap (λ k. (run_of k s).steps) sum ∙ omega arith)
    (λ e is. let none = steps_end m s e is in absurd (omega arith))

-- the run with as many steps as a run completes has its state
pub same_end : (budget : ℕ) (s : State) → state_after (run_of budget s).steps s ≡ (run_of budget s).state
same_end zero s = ap (λ k. state_after k s) (steps_none s)
same_end (suc n) s = by_step s (state_after (run_of (suc n) s).steps s ≡ (run_of (suc n) s).state)
    (λ t e. ap (λ k. state_after k s) (steps_first n s t e) ∙ after_first (run_of n t).steps s t e ∙ same_end n t
    ∙ sym (after_first n s t e))
    (λ e is. ap (λ k. state_after k s) (steps_end n s e is) ∙ after_none s ∙ sym (after_end n s e is))

-- each step that a run completes leads to the state behind it
pub each_completes : (budget k : ℕ) (s : State) → k < (run_of budget s).steps
    → step_of (state_after k s) ≡ Ok (state_after (k + 1) s)
each_completes zero k s h = let none = steps_none s in absurd (omega arith)
each_completes (suc n) zero s h = by_step s (step_of (state_after 0 s) ≡ Ok (state_after (0 + 1) s))
    (λ t e. ap step_of (after_none s) ∙ e ∙ ap (λ u. Ok u) (sym (after_none t) ∙ sym (after_first 0 s t e)))
    (λ e is. let none = steps_end n s e is in absurd (omega arith))
each_completes (suc n) (suc k) s h = by_step s (step_of (state_after (suc k) s) ≡ Ok (state_after (suc k + 1) s))
    (λ t e. let first = steps_first n s t e in let rest : k < (run_of n t).steps = omega arith in
    let sum : suc k + 1 ≡ suc (k + 1) = omega arith in
    ap step_of (after_first k s t e) ∙ each_completes n k t rest
    ∙ ap (λ u. Ok u) (sym (after_first (k + 1) s t e) ∙ ap (λ m. state_after m s) (sym sum)))
    (λ e is. let none = steps_end n s e is in absurd (omega arith))

used_up : (s : State) → (run_of 0 s).ending ≡ Budget
unfolding run_of
used_up s = refl

-- and what stands at its end ends it, unless the budget does
pub ends : (budget : ℕ) (s : State)
    → ((run_of budget s).ending ≡ Budget) ⊎ (step_of (run_of budget s).state ≡ Err (run_of budget s).ending)
ends zero s = inl (used_up s)
ends (suc n) s = by_step s (((run_of (suc n) s).ending ≡ Budget)
    ⊎ (step_of (run_of (suc n) s).state ≡ Err (run_of (suc n) s).ending))
    (λ t e. let goes = run_goes_on n s t e in
    elim (ends n t) [
      | inl b ↦ inl (ap (λ r. r.ending) goes ∙ b)
      | inr x ↦ inr (ap (λ r. step_of r.state) goes ∙ x ∙ ap (λ u. Err u) (sym (ap (λ r. r.ending) goes)))
    ])
    (λ e is. let end = run_ends n s e is in
    inr (ap (λ r. step_of r.state) end ∙ is ∙ ap (λ u. Err u) (sym (ap (λ r. r.ending) end))))

-- ---- what is shown of the steps

pub lines_first : (n : ℕ) (s t : State) → step_of s ≡ Ok t → steps_from (suc n) s ≡ traced_step s t ∷ steps_from n t
unfolding steps_from
lines_first n s t e = ap (λ r. step_then r s (λ u. steps_from n u)) e

pub lines_end : (n : ℕ) (s : State) (e : Ending) → step_of s ≡ Err e → steps_from (suc n) s ≡ []
unfolding steps_from
lines_end n s e is = ap (λ r. step_then r s (λ u. steps_from n u)) is

lines_none : (s : State) → steps_from 0 s ≡ []
unfolding steps_from
lines_none s = refl

-- one line a step
pub lines_count : (n : ℕ) (s : State) → length (steps_from n s) ≡ (run_of n s).steps
lines_count zero s = ap length (lines_none s) ∙ sym (steps_none s)
lines_count (suc n) s = by_step s (length (steps_from (suc n) s) ≡ (run_of (suc n) s).steps)
    (λ t e. ap length (lines_first n s t e) ∙ ap suc (lines_count n t) ∙ sym (steps_first n s t e))
    (λ e is. ap length (lines_end n s e is) ∙ sym (steps_end n s e is))

-- each by the states in front of it and behind it
pub line_at : (n k : ℕ) (s : State) (d : TracedStep) → k < (run_of n s).steps
    → get_or (steps_from n s) k d ≡ traced_step (state_after k s) (state_after (k + 1) s)
line_at zero k s d h = let none = steps_none s in absurd (omega arith)
line_at (suc n) zero s d h = by_step s (get_or (steps_from (suc n) s) 0 d ≡ traced_step (state_after 0 s) (state_after (0 + 1) s))
    (λ t e. ap (λ ls. get_or ls 0 d) (lines_first n s t e)
    ∙ (λ i. traced_step (sym (after_none s) i) ((sym (after_none t) ∙ sym (after_first 0 s t e)) i)))
    (λ e is. let none = steps_end n s e is in absurd (omega arith))
line_at (suc n) (suc k) s d h = by_step s
    (get_or (steps_from (suc n) s) (suc k) d ≡ traced_step (state_after (suc k) s) (state_after (suc k + 1) s))
    (λ t e. let first = steps_first n s t e in let rest : k < (run_of n t).steps = omega arith in
    let sum : suc k + 1 ≡ suc (k + 1) = omega arith in
    ap (λ ls. get_or ls (suc k) d) (lines_first n s t e) ∙ line_at n k t d rest
    ∙ (λ i. traced_step (sym (after_first k s t e) i)
    ((sym (after_first (k + 1) s t e) ∙ ap (λ m. state_after m s) (sym sum)) i)))
    (λ e is. let none = steps_end n s e is in absurd (omega arith))

-- ---- as far as a walk has come

-- one step more
pub more_lines : (count counter : ℕ) (s t : State) (shown whole : List TracedStep) → counter < count
    → step_of s ≡ Ok t → shown ++ steps_from (count - counter) s ≡ whole
    → (shown ++ traced_step s t ∷ []) ++ steps_from (count - (counter + 1)) t ≡ whole
more_lines count counter s t shown whole h e so_far =
    let left : count - counter ≡ suc (count - (counter + 1)) = omega arith in
    append_assoc shown (traced_step s t ∷ []) (steps_from (count - (counter + 1)) t)
    ∙ ap (λ ls. shown ++ ls) (sym (lines_first (count - (counter + 1)) s t e))
    ∙ ap (λ k. shown ++ steps_from k s) (sym left) ∙ so_far

pub nearer : (count counter : ℕ) (s t end : State) → counter < count → step_of s ≡ Ok t
    → state_after (count - counter) s ≡ end → state_after (count - (counter + 1)) t ≡ end
nearer count counter s t end h e so_far =
    let left : count - counter ≡ suc (count - (counter + 1)) = omega arith in
    sym (after_first (count - (counter + 1)) s t e) ∙ ap (λ k. state_after k s) (sym left) ∙ so_far

-- no step more: there are none, or the next one does not complete
pub all_lines : (left : ℕ) (s : State) (shown whole : List TracedStep)
    → (left ≡ 0) ⊎ (is_ok (step_of s) ≡ false) → shown ++ steps_from left s ≡ whole → shown ≡ whole
all_lines zero s shown whole h so_far = sym (append-nil shown) ∙ ap (λ ls. shown ++ ls) (sym (lines_none s)) ∙ so_far
all_lines (suc n) s shown whole h so_far = elim h [
  | inl none ↦ absurd (omega arith)
  | inr ended ↦ by_step s (shown ≡ whole) (λ t e. let ok = ap is_ok e in cc)
      (λ e is. sym (append-nil shown) ∙ ap (λ ls. shown ++ ls) (sym (lines_end n s e is)) ∙ so_far)
]

pub arrived : (left : ℕ) (s end : State) → (left ≡ 0) ⊎ (is_ok (step_of s) ≡ false) → state_after left s ≡ end → s ≡ end
arrived zero s end h so_far = sym (after_none s) ∙ so_far
arrived (suc n) s end h so_far = elim h [
  | inl none ↦ absurd (omega arith)
  | inr ended ↦ by_step s (s ≡ end) (λ t e. let ok = ap is_ok e in cc)
      (λ e is. sym (after_end n s e is) ∙ so_far)
]

-- ---- a run of one step

-- what so many steps of it tell: where there are any, the step completed with the state at the end, and else it did not
abbrev Told : ℕ → State → Result State Ending → State → Type 0
Told n s r t = MatchBool (not (n == 0)) (r ≡ Ok t) ((is_ok r ≡ false) × (t ≡ s))

told_by : (s : State) (r : Result State Ending) → step_of s ≡ r → Told (run_of 1 s).steps s r (state_after 1 s)
told_by s (Ok u) e = subst (λ k. Told k s (Ok u) (state_after 1 s)) (sym (steps_first 0 s u e ∙ ap suc (steps_none u)))
    (ap (λ v. Ok v) (sym (after_first 0 s u e ∙ after_none u)))
told_by s (Err x) e = subst (λ k. Told k s (Err x) (state_after 1 s)) (sym (steps_end 0 s x e)) (refl, after_end 0 s x e)

pub one_step : (s t : State) (n : ℕ) (e : Ending) → run_of 1 s ≡ record { ending = e; steps = n; state = t }
    → Told n s (step_of s) t
one_step s t n e ran = subst (λ k. Told k s (step_of s) t) (ap (λ r. r.steps) ran)
    (subst (λ u. Told (run_of 1 s).steps s (step_of s) u) (ap (λ r. r.state) ran) (told_by s (step_of s) refl))
