-- Runs that are counted in addition to others.
use Rattle.std.proofs.Common.{◌≡◌, ◌∙◌, ◌+◌, ◌%◌, ◌^◌, ◌<◌, ◌≤◌, ℕ, List, [], ◌∷◌, ◌++◌, Option, Some, None, Result, Ok, Err, get_or, length, map, take, refl, sym, ap, subst, arith}
use Rattle.std.specs.Prelude.{is_ok, is_some}
use Rattle.std.proofs.lemmas.List.{map-append, take_more}
use Rattle.std.proofs.lemmas.List.Sums.{sum_by_push, sum_by-cons}
use Rattle.std.specs.List.{sum_by}
use Rattle.std.specs.Result.{result_ok}
use Rattle.rv_count_tables.specs.declared.table.AddressCounts.{AddressCounts}
use Rattle.rv_count_tables.specs.Table.{executed_at, taken_at}
use Rattle.rv_trace.specs.declared_answers.PathResult.{PathResult}
use Rattle.rv_trace.specs.declared_job.Job.{Job}
use Rattle.rv_trace.specs.Jobs.{single_job}
use Rattle.rv_trace.specs.Plans.{PlanView}
use Rattle.rv_trace.specs.State.{State}
use Rattle.rv_fleet.specs.declared_row.Refusal.{Refusal}
use Rattle.rv_fleet.specs.declared_row.Row.{Row}
use Rattle.rv_trace.specs.Rows.{row_of, rows_at, start_state_in}
use Rattle.rv_trace.specs.Trace.{job_at}
use Rattle.rv_counting.proofs.Evens.{few_begin, none_at_odd}
use Rattle.rv_counting.proofs.OfJobs.{none_if_no_ok}
use Rattle.rv_counting.proofs.Starts.{start_even}
use Rattle.rv_counting.specs.declared.runs_counter.RunsCounter.{RunsCounter}
use Rattle.rv_counting.specs.Counters.{counts_of, HasCountedFrom}
use Rattle.rv_counting.specs.Coverage.{address_if}
use Rattle.rv_counting.specs.JobTables.{executed_from, taken_from, jobs_at, runs_by}
use Rattle.rv_counting.specs.RunCounts.{executed_of, taken_of, AddsJob, AddsRun, CanCountRuns, HasCountedJobs}

-- ---- one run more

pub adds_none : (budget : ℕ) (start : Option State) (c : RunsCounter) → CanCountRuns c → start ≡ None → AddsRun budget start c c
adds_none budget start c h none = subst (λ (o : Option State). AddsRun budget o c c) (sym none) (
    record {
      ready = h;
      runs = omega arith;
      executed = λ at. omega arith;
      taken = λ at. omega arith;
    }
    )

-- a refused job has no run
pub refused_job : (answers : List PathResult) (job : Job) (c : RunsCounter) → CanCountRuns c → ((s : State) → start_state_in answers job ≡ Ok s → ⊥)
    → AddsJob answers job c c
refused_job answers job c h none =
    adds_none job.budget (result_ok (start_state_in answers job)) c h (none_if_no_ok (start_state_in answers job) none)

pub refused_as : (answers : List PathResult) (job : Job) (why : Refusal) (c : RunsCounter) → CanCountRuns c → start_state_in answers job ≡ Err why
    → AddsJob answers job c c
refused_as answers job why c h is = adds_none job.budget (result_ok (start_state_in answers job)) c h (ap result_ok is)

pub ran_job : (answers : List PathResult) (job : Job) (s : State) (old new : RunsCounter) → start_state_in answers job ≡ Ok s
    → AddsRun job.budget (Some s) old new → AddsJob answers job old new
ran_job answers job s old new start adds =
    subst (λ (r : Result State Refusal). AddsRun job.budget (result_ok r) old new) (sym start) adds

module _ (budget g : ℕ) (s : State) (base : List AddressCounts) (old new : RunsCounter) (fits : budget < 2 ^ 32) (h : CanCountRuns old)
    (same : base ≡ counts_of old.counter) (early : g ≡ old.counter.cache.generation)
    (counted : HasCountedFrom base g budget s new.counter) (one : new.runs ≡ old.runs + 1) where
  begun_more : (at : ℕ) → executed_at at (counts_of new.counter) ≡ executed_at at (counts_of old.counter) + executed_from at budget (Some s)
  begun_more at = counted.sums.executed at ∙ ap (λ cs. executed_at at cs + executed_from at budget (Some s)) same

  pub adds_run : AddsRun budget (Some s) old new
  adds_run = record {
    ready = record {
      consistent = counted.sums.consistent;
      indexed = counted.indexed;
      cache = counted.cache;
      few = λ at.
          let b = begun_more at in
          let f = h.few at in
          let m = few_begin budget at s in
          omega (arith, b, f, m, fits, one);
      generations = (let k = counted.generations in let e = h.generations in omega (arith, k, e, early, fits, one));
    };
    runs = one;
    executed = begun_more;
    taken = λ at. counted.sums.taken at ∙ ap (λ cs. taken_at at cs + taken_from at budget (Some s)) same;
  }

-- ---- the runs of jobs

ok_is_some : (r : Result State Refusal) → address_if (is_some (result_ok r)) ≡ address_if (is_ok r)
ok_is_some (Ok s) = refl
ok_is_some (Err why) = refl

pub one_job_more : (answers : List PathResult) (js : List Job) (j : Job) (old new : RunsCounter) → HasCountedJobs answers js old
    → AddsJob answers j old new → HasCountedJobs answers (js ++ j ∷ []) new
one_job_more answers js j old new h adds = record {
  ready = adds.ready;
  runs = (let a = adds.runs in
      let r = h.runs in
      let o = ok_is_some (start_state_in answers j) in
      let e = sum_by_push (runs_by answers) js j in
      omega (arith, a, r, o, e));
  executed = λ at.
      let a = adds.executed at in
      let b = h.executed at in
      let e = sum_by_push (executed_of answers at) js j in
      omega (arith, a, b, e);
  taken = λ at.
      let a = adds.taken at in
      let b = h.taken at in
      let e = sum_by_push (taken_of answers at) js j in
      omega (arith, a, b, e);
}

module _ (plan : PlanView) (indices : List ℕ) where
  pub next_job : (k : ℕ) (old new : RunsCounter) → k < length indices → HasCountedJobs plan.results (jobs_at plan (take k indices)) old
      → ((d : Job) → AddsJob plan.results (job_at plan (get_or indices k 0) d) old new)
      → HasCountedJobs plan.results (jobs_at plan (take (k + 1) indices)) new
  next_job k old new lt h adds =
      let no_job = single_job [] 0 [] in
      let index = get_or indices k 0 in
      subst (λ ps. HasCountedJobs plan.results (jobs_at plan ps) new) (sym (take_more indices k 0 lt))
      (subst (λ js. HasCountedJobs plan.results js new) (sym (map-append (λ index. job_at plan index no_job) (take k indices) (index ∷ [])))
      (one_job_more plan.results (jobs_at plan (take k indices)) (job_at plan index no_job) old new h (adds no_job)))

-- ---- one row more

pub no_rows : (plan : PlanView) → [] ≡ rows_at plan []
unfolding rows_at
no_rows plan = refl

pub next_row : (plan : PlanView) (indices : List ℕ) (k : ℕ) (old new : List Row) (row : Row) → k < length indices
    → old ≡ rows_at plan (take k indices) → ((d : Job) → row ≡ row_of plan (get_or plan.jobs (get_or indices k 0) d))
    → new ≡ old ++ row ∷ [] → new ≡ rows_at plan (take (k + 1) indices)
unfolding rows_at
next_row plan indices k old new row lt h is push =
    let no_job = single_job [] 0 [] in
    let row_at = λ (index : ℕ). row_of plan (get_or plan.jobs index no_job) in
    let index = get_or indices k 0 in
    push ∙ ap (λ rs. rs ++ row ∷ []) h ∙ ap (λ r. map row_at (take k indices) ++ r ∷ []) (is no_job)
    ∙ sym (map-append row_at (take k indices) (index ∷ [])) ∙ ap (map row_at) (sym (take_more indices k 0 lt))

-- there are no more runs than jobs
at_most_one : (r : Result State Refusal) → address_if (is_ok r) ≤ 1
at_most_one (Ok s) = omega arith
at_most_one (Err why) = omega arith

pub few_runs : (answers : List PathResult) (js : List Job) → sum_by (runs_by answers) js ≤ length js
few_runs answers [] = omega arith
few_runs answers (j ∷ js) =
    let first = at_most_one (start_state_in answers j) in
    let rest = few_runs answers js in
    omega (arith, first, rest, sum_by-cons (runs_by answers) j js)

-- no run executes an instruction at an odd address
module _ (answers : List PathResult) (at : ℕ) (odd : at % 2 ≡ 1) where
  none_of_job : (j : Job) → executed_of answers at j ≡ 0
  none_of_job j = by (start_state_in answers j) refl
    where
      by : (r : Result State Refusal) → start_state_in answers j ≡ r → executed_from at j.budget (result_ok r) ≡ 0
      by (Ok s) start = none_at_odd j.budget at s (start_even j s answers start) odd
      by (Err why) start = refl

  none_of_jobs : (js : List Job) → sum_by (executed_of answers at) js ≡ 0
  none_of_jobs [] = refl
  none_of_jobs (j ∷ js) =
      let first = none_of_job j in let rest = none_of_jobs js in omega (arith, first, rest, sum_by-cons (executed_of answers at) j js)

  pub none_counted_at_odd : (js : List Job) (c : RunsCounter) → HasCountedJobs answers js c → executed_at at (counts_of c.counter) ≡ 0
  none_counted_at_odd js c h = h.executed at ∙ none_of_jobs js
