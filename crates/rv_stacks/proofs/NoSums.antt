-- The numbers of so few jobs fit in 64 bits, so tables with stacks lack a sum by names alone.
use Rattle.std.proofs.Common.{◌≡◌, ◌∙◌, ◌+◌, ◌*◌, ◌^◌, ◌≤◌, ℕ, List, [], ◌∷◌, Option, None, Result, Ok, Err, length, take, get_or, refl, ap, arith, inl, inr, ⊎_elim}
use Rattle.std.proofs.lemmas.List.{length-map, length-take}
use Rattle.std.proofs.lemmas.List.Sums.{sum_by-cons}
use Rattle.std.specs.List.{AllByRecursion, sum_by}
use Rattle.std.specs.Result.{result_ok}
use Rattle.std.specs.Prelude.{is_ok}
use Rattle.rv_count_tables.specs.Limits.{max_jobs}
use Rattle.rv_count_tables.specs.declared.sum.SumError.{SumError}
use Rattle.rv_count_tables.specs.declared.sum.SumError.TheVariants.{OutOfMemory, Count, Node, Names, Runs}
use Rattle.rv_count_tables.specs.declared.table.CountTable.{CountTable}
use Rattle.rv_count_tables.specs.Sum.{HaveNoSum}
use Rattle.rv_count_tables.specs.Table.{executed_in, calls_in_image, steps_in}
use Rattle.rv_counting.specs.JobTables.{executed_by, executed_from, jobs_at, runs_by, start_state_of_image}
use Rattle.rv_counting.proofs.Public.{not_over}
use Rattle.rv_counting.specs.declared_answers.PathResult.{PathResult}
use Rattle.rv_counting.specs.State.{State}
use Rattle.rv_counting.specs.declared_row.Refusal.{Refusal}
use Rattle.rv_counting.specs.declared_job.Job.{Job}
use Rattle.rv_counting.specs.Jobs.{single_job}
use Rattle.rv_counting.specs.Plans.{PlanView}
use Rattle.rv_calls.specs.Rows.{start_state_in}
use Rattle.rv_stacks.specs.StackTables.{calls_by_job, calls_from, function_of_job, steps_by_job, steps_from, HaveNoTableWithStacks, IsNextTableNotAdded, IsOfNamesOrMemory, IsTableWithStacks, RunsWithinABudget}
use Rattle.rv_stacks.proofs.Bounds.{arrivals_at_most, begun_at_most, once_at_most, steps_at_most}
use Rattle.rv_stacks.proofs.WithStacks.{of_places, IsOfJobs}

-- ---- the jobs at some places

record IsSmall (n : ℕ) (t : CountTable) : Type 0 where
  pub executed : (digest : List ℕ) (address : ℕ) → executed_in digest address t.images ≤ n * 2 ^ 34
  pub calls : (digest path : List ℕ) → calls_in_image digest path t.images ≤ n * 2 ^ 34
  pub steps : (digest path : List ℕ) → steps_in digest path t.images ≤ n * 2 ^ 34
  pub runs : t.runs ≤ n * 2 ^ 34

few_if_run : (answers : List PathResult) (job : Job) (digest : List ℕ) (count : ℕ → Option State → ℕ)
    → ((n : ℕ) (o : Option State) → count n o ≤ 1 + n + n) → ((n : ℕ) → count n None ≡ 0) → RunsWithinABudget answers job
    → count job.budget (start_state_of_image answers digest job) ≤ 2 ^ 34
few_if_run answers job digest count few zero_of_none small = by (start_state_in answers job) refl
  where
    by : (r : Result State Refusal) → start_state_in answers job ≡ r → count job.budget (start_state_of_image answers digest job) ≤ 2 ^ 34
    by (Ok s) start =
        let budget = small s start in
        let k = few job.budget (start_state_of_image answers digest job) in
        omega (arith, budget, k)
    by (Err why) start =
        let none = not_over answers job digest (ap (λ (r : Result State Refusal). result_ok r) start) in
        let e = ap (count job.budget) none ∙ zero_of_none job.budget in
        omega (arith, e)

small_sum : {X : Type 0} (P : X → Type 0) (f : X → ℕ) → ((x : X) → P x → f x ≤ 2 ^ 34) → (xs : List X) → AllByRecursion P xs
    → sum_by f xs ≤ length xs * 2 ^ 34
small_sum P f few [] h = omega arith
small_sum P f few (x ∷ xs) h =
    let parts = sum_by-cons f x xs in
    let here = few x h.0 in
    let rest = small_sum P f few xs h.1 in
    omega (arith, parts, here, rest)

module _ (plan : PlanView) (indices : List ℕ) (budgets : AllByRecursion (RunsWithinABudget plan.results) (jobs_at plan indices)) where
  few_jobs : (f : Job → ℕ) → ((job : Job) → RunsWithinABudget plan.results job → f job ≤ 2 ^ 34)
      → sum_by f (jobs_at plan indices) ≤ length indices * 2 ^ 34
  few_jobs f few =
      let sum = small_sum (RunsWithinABudget plan.results) f few (jobs_at plan indices) budgets in
      let long = length-map indices (λ (index : ℕ). get_or plan.jobs index (single_job [] 0 [])) in
      omega (arith, sum, long)

  small_table : (t : CountTable) → IsOfJobs plan.results (jobs_at plan indices) t → IsSmall (length indices) t
  small_table t h = record {
    executed = λ digest address.
        let e = h.executed digest address in
        let few = few_jobs (executed_by plan.results digest address)
        (λ job. few_if_run plan.results job digest (executed_from address)
        (λ n o. let b = begun_at_most address n o in omega (arith, b)) (λ n. refl)) in
        omega (arith, e, few);
    calls = λ digest path.
        let e = h.calls digest path in
        let few = few_jobs (calls_by_job plan.results digest path)
        (λ job. few_if_run plan.results job digest (calls_from (function_of_job plan.results job) path)
        (arrivals_at_most (function_of_job plan.results job) path) (λ n. refl)) in
        omega (arith, e, few);
    steps = λ digest path.
        let e = h.steps digest path in
        let few = few_jobs (steps_by_job plan.results digest path)
        (λ job. few_if_run plan.results job digest (steps_from (function_of_job plan.results job) path)
        (λ n o. let b = steps_at_most (function_of_job plan.results job) path n o in omega (arith, b)) (λ n. refl)) in
        omega (arith, e, few);
    runs = (let e = h.runs in
        let few = few_jobs (runs_by plan.results)
        (λ job small. let b = once_at_most (is_ok (start_state_in plan.results job)) in omega (arith, b)) in
        omega (arith, e, few));
  }

small : (plan : PlanView) (indices : List ℕ) (t : CountTable) → IsTableWithStacks plan indices t → IsSmall (length indices) t
small plan indices t is =
    let h = of_places plan indices t is in
    small_table plan indices h.budgets t h

-- ---- why there is no sum

told : (n m : ℕ) (t u : CountTable) (error : SumError) → n + m ≤ 8192 → IsSmall n t → IsSmall m u → HaveNoSum error t u
    → IsOfNamesOrMemory error
told n m t u OutOfMemory few h k no_sum = inl refl
told n m t u (Count address) few h k no_sum =
    let a = h.executed no_sum.0 address in
    let b = k.executed no_sum.0 address in
    let c = no_sum.1 in
    absurd (omega (arith, few, a, b, c))
told n m t u (Node function) few h k no_sum =
    let digest = no_sum.0 in
    let path = no_sum.1 in
    absurd
    (elim no_sum.3 [
      | inl c ↦ let a = h.calls digest path in let b = k.calls digest path in omega (arith, few, a, b, c)
      | inr c ↦ let a = h.steps digest path in let b = k.steps digest path in omega (arith, few, a, b, c)
    ])
told n m t u (Names function) few h k no_sum = inr (function, refl)
told n m t u Runs few h k no_sum =
    let a = h.runs in
    let b = k.runs in
    absurd (omega (arith, few, a, b, no_sum))

told_of_next : (plan : PlanView) (indices : List ℕ) (error : SumError) → length indices ≤ max_jobs → IsNextTableNotAdded plan indices error
    → IsOfNamesOrMemory error
told_of_next plan indices error few h =
    let before = take h.count indices in
    let long = length-take h.count indices in
    let lt = h.within in
    told (length before) 1 h.first h.next error (omega (arith, few, long, lt)) (small plan before h.first h.of_first)
    (small plan (get_or indices h.count 0 ∷ []) h.next h.of_next) h.refused

pub no_other_reason : (plan : PlanView) (indices : List ℕ) (error : SumError) → length indices ≤ max_jobs
    → HaveNoTableWithStacks plan indices error → IsOfNamesOrMemory error
no_other_reason plan indices error few = ⊎_elim inl (told_of_next plan indices error few)
