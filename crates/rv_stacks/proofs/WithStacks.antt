-- The tables of counts and stacks of jobs: of some more, of the same in another order, and that there is one.
use Rattle.std.proofs.Common.{◌≡◌, ◌∙◌, ◌<◌, ◌⊎◌, ℕ, zero, suc, true, List, [], ◌∷◌, ◌++◌, Option, Some, None, refl, sym, ap, arith, inl, inr}
use Rattle.std.proofs.lemmas.List.Elements.{All-from_recursion, recursion_from_All}
use Rattle.std.proofs.lemmas.List.Sorted.{All-permutation, IsPermutation-map, sum_by-IsPermutation}
use Rattle.std.proofs.lemmas.List.Sums.{sum_by-append, sum_by-cons}
use Rattle.std.specs.List.{AllByRecursion, sum_by}
use Rattle.std.specs.List.Sorted.{IsPermutation}
use Rattle.rv_count_tables.proofs.Public.{one_table_of}
use Rattle.rv_count_tables.specs.declared.table.CountTable.{CountTable}
use Rattle.rv_count_tables.specs.Sum.{IsSumOfTables, no_counts}
use Rattle.rv_count_tables.specs.Table.{executed_in, taken_in, path_of_image, name_in, calls_in_image, steps_in, has_name, is_before, min_text_of, IsValidTable}
use Rattle.rv_counting.proofs.Public.{first_moved, first_path-append, no_counts_is_table}
use Rattle.rv_counting.specs.JobTables.{executed_by, first_path, jobs_at, runs_by, taken_by}
use Rattle.rv_counting.specs.declared_answers.PathResult.{PathResult}
use Rattle.rv_counting.specs.declared_job.Job.{Job}
use Rattle.rv_counting.specs.Plans.{PlanView}
use Rattle.rv_count_tables.specs.Trees.{ends_with}
use Rattle.rv_stacks.specs.StackTables.{calls_by_job, steps_by_job, IsNamedBy, IsTableWithStacks, RunsWithinABudget}
use Rattle.rv_stacks.proofs.Named.{come_to}
use Rattle.rv_stacks.proofs.Tables.{budgets_of_both, names_of_both, same_either}

-- each number is the sum over the jobs
pub record IsOfJobs (answers : List PathResult) (jobs : List Job) (t : CountTable) : Type 0 where
  pub table : IsValidTable t
  pub executed : (digest : List ℕ) (address : ℕ)
      → executed_in digest address t.images ≡ sum_by (executed_by answers digest address) jobs
  pub taken : (digest : List ℕ) (address : ℕ)
      → taken_in digest address t.images ≡ sum_by (taken_by answers digest address) jobs
  pub paths : (digest : List ℕ) → path_of_image digest t.images ≡ first_path answers digest jobs
  pub calls : (digest path : List ℕ)
      → calls_in_image digest path t.images ≡ sum_by (calls_by_job answers digest path) jobs
  pub steps : (digest path : List ℕ) → steps_in digest path t.images ≡ sum_by (steps_by_job answers digest path) jobs
  pub names : (digest : List ℕ) (f : ℕ) → AllByRecursion (IsNamedBy answers t digest f) jobs
  pub runs : t.runs ≡ sum_by (runs_by answers) jobs
  pub budgets : AllByRecursion (RunsWithinABudget answers) jobs

-- ---- counts, and stacks beside them

pub with_itself : (o : Option (List ℕ)) → min_text_of o o ≡ o
with_itself None = refl
with_itself (Some path) = ap (λ (p : List ℕ). Some p) (same_either (is_before path path) path)

pub each_so : {X : Type 0} (P Q : X → Type 0) (xs : List X) → ((x : X) → P x → Q x) → AllByRecursion P xs → AllByRecursion Q xs
each_so P Q [] f h = tt
each_so P Q (x ∷ xs) f h = (f x h.0, each_so P Q xs f h.1)

pub of_places : (plan : PlanView) (indices : List ℕ) (t : CountTable) → IsTableWithStacks plan indices t
    → IsOfJobs plan.results (jobs_at plan indices) t
of_places plan indices t h = record {
  table = h.sum.table;
  executed = λ digest address.
      let s = h.sum.executed digest address in
      let p = h.counted.executed digest address in
      let q = h.stacked.executed digest address in
      omega (arith, s, p, q);
  taken = λ digest address.
      let s = h.sum.taken digest address in
      let p = h.counted.taken digest address in
      let q = h.stacked.taken digest address in
      omega (arith, s, p, q);
  paths = λ digest. h.sum.paths digest
      ∙ (λ i. min_text_of (h.counted.paths digest i) (h.stacked.paths digest i))
      ∙ with_itself (first_path plan.results digest (jobs_at plan indices));
  calls = λ digest path.
      let s = h.sum.calls digest path in
      let p = h.counted.stacks.calls digest path in
      let q = h.stacked.calls digest path in
      omega (arith, s, p, q);
  steps = λ digest path.
      let s = h.sum.steps digest path in
      let p = h.counted.stacks.steps digest path in
      let q = h.stacked.steps digest path in
      omega (arith, s, p, q);
  names = λ digest f.
      each_so (IsNamedBy plan.results h.stacks digest f) (IsNamedBy plan.results t digest f) (jobs_at plan indices)
      (λ job named path ends some. h.sum.names digest f
      ∙ ap (λ (o : Option (List ℕ)). min_text_of o (name_in digest f h.stacks.images)) (h.counted.stacks.names digest f)
      ∙ named path ends some)
      (h.stacked.names digest f);
  runs = (let s = h.sum.runs in
      let p = h.counted.runs in
      let q = h.stacked.runs in
      omega (arith, s, p, q));
  budgets = h.stacked.budgets;
}

-- ---- jobs of both

pub of_none : (answers : List PathResult) → IsOfJobs answers [] no_counts
of_none answers = record {
  table = no_counts_is_table;
  executed = λ digest address. refl;
  taken = λ digest address. refl;
  paths = λ digest. refl;
  calls = λ digest path. refl;
  steps = λ digest path. refl;
  names = λ digest f. tt;
  runs = refl;
  budgets = tt;
}

module _ (answers : List PathResult) where
  pub of_both : (js ks : List Job) (t u sum : CountTable) → IsOfJobs answers js t → IsOfJobs answers ks u → IsSumOfTables t u sum
      → IsOfJobs answers (js ++ ks) sum
  of_both js ks t u sum h k is = record {
    table = is.table;
    executed = λ digest address.
        let s = is.executed digest address in
        let p = h.executed digest address in
        let q = k.executed digest address in
        let e = sum_by-append (executed_by answers digest address) js ks in
        omega (arith, s, p, q, e);
    taken = λ digest address.
        let s = is.taken digest address in
        let p = h.taken digest address in
        let q = k.taken digest address in
        let e = sum_by-append (taken_by answers digest address) js ks in
        omega (arith, s, p, q, e);
    paths = λ digest.
        is.paths digest ∙ (λ i. min_text_of (h.paths digest i) (k.paths digest i))
        ∙ sym (first_path-append answers digest js ks);
    calls = λ digest path.
        let s = is.calls digest path in
        let p = h.calls digest path in
        let q = k.calls digest path in
        let e = sum_by-append (calls_by_job answers digest path) js ks in
        omega (arith, s, p, q, e);
    steps = λ digest path.
        let s = is.steps digest path in
        let p = h.steps digest path in
        let q = k.steps digest path in
        let e = sum_by-append (steps_by_job answers digest path) js ks in
        omega (arith, s, p, q, e);
    names = λ digest f. names_of_both answers js ks t u sum is digest f (h.names digest f) (k.names digest f);
    runs = (let s = is.runs in
        let p = h.runs in
        let q = k.runs in
        let e = sum_by-append (runs_by answers) js ks in
        omega (arith, s, p, q, e));
    budgets = budgets_of_both answers js ks h.budgets k.budgets;
  }

  -- ---- the jobs in another order

  pub in_order : (js ks : List Job) (t : CountTable) → IsPermutation js ks → IsOfJobs answers js t → IsOfJobs answers ks t
  in_order js ks t p h = record {
    table = h.table;
    executed = λ digest address. h.executed digest address ∙ sym (sum_by-IsPermutation (executed_by answers digest address) js ks p);
    taken = λ digest address. h.taken digest address ∙ sym (sum_by-IsPermutation (taken_by answers digest address) js ks p);
    paths = λ digest. h.paths digest ∙ first_moved answers digest js ks p;
    calls = λ digest path.
        h.calls digest path ∙ sym (sum_by-IsPermutation (calls_by_job answers digest path) js ks p);
    steps = λ digest path. h.steps digest path ∙ sym (sum_by-IsPermutation (steps_by_job answers digest path) js ks p);
    names = λ digest f.
        recursion_from_All (IsNamedBy answers t digest f) ks
        (All-permutation (IsNamedBy answers t digest f) js ks p
        (All-from_recursion (IsNamedBy answers t digest f) js (h.names digest f)));
    runs = h.runs ∙ sym (sum_by-IsPermutation (runs_by answers) js ks p);
    budgets = recursion_from_All (RunsWithinABudget answers) ks
        (All-permutation (RunsWithinABudget answers) js ks p (All-from_recursion (RunsWithinABudget answers) js h.budgets));
  }

  -- ---- one table

  none_or_some : (n : ℕ) → (n ≡ 0) ⊎ (0 < n)
  none_or_some zero = inl refl
  none_or_some (suc n) = inr (omega arith)

  -- the job whose run came to the function names it in both
  named_by_a_job : (t u : CountTable) (digest : List ℕ) (f : ℕ) (path : List ℕ) (jobs : List Job) → ends_with f path ≡ true
      → 0 < sum_by (calls_by_job answers digest path) jobs → AllByRecursion (IsNamedBy answers t digest f) jobs
      → AllByRecursion (IsNamedBy answers u digest f) jobs → name_in digest f t.images ≡ name_in digest f u.images
  named_by_a_job t u digest f path [] ends some h k = absurd (omega (arith, some))
  named_by_a_job t u digest f path (j ∷ js) ends some h k = elim (none_or_some (calls_by_job answers digest path j)) [
    | inl e ↦
        let parts = sum_by-cons (calls_by_job answers digest path) j js in
        named_by_a_job t u digest f path js ends (omega (arith, some, parts, e)) h.1 k.1
    | inr more ↦ h.0 path ends more ∙ sym (k.0 path ends more)
  ]

  same_if_either : (o p : Option (List ℕ)) → (has_name o ≡ true → o ≡ p) → (has_name p ≡ true → o ≡ p) → o ≡ p
  same_if_either None None f g = refl
  same_if_either None (Some name) f g = g refl
  same_if_either (Some name) p f g = f refl

  same_names : (jobs : List Job) (t u : CountTable) → IsOfJobs answers jobs t → IsOfJobs answers jobs u → (digest : List ℕ) (f : ℕ)
      → name_in digest f t.images ≡ name_in digest f u.images
  same_names jobs t u h k digest f =
      same_if_either (name_in digest f t.images) (name_in digest f u.images)
      (λ named. let c = come_to f digest t.images h.table.images named in
      let e = h.calls digest c.path in
      let some = c.some in
      named_by_a_job t u digest f c.path jobs c.ends (omega (arith, e, some)) (h.names digest f) (k.names digest f))
      (λ named. let c = come_to f digest u.images k.table.images named in
      let e = k.calls digest c.path in
      let some = c.some in
      named_by_a_job t u digest f c.path jobs c.ends (omega (arith, e, some)) (h.names digest f) (k.names digest f))

  one_of_jobs : (jobs : List Job) (t u : CountTable) → IsOfJobs answers jobs t → IsOfJobs answers jobs u → t ≡ u
  one_of_jobs jobs t u h k = one_table_of t u h.table k.table
      (λ digest address. h.executed digest address ∙ sym (k.executed digest address))
      (λ digest address. h.taken digest address ∙ sym (k.taken digest address))
      (λ digest. h.paths digest ∙ sym (k.paths digest))
      (same_names jobs t u h k)
      (λ digest path. h.calls digest path ∙ sym (k.calls digest path))
      (λ digest path. h.steps digest path ∙ sym (k.steps digest path)) (h.runs ∙ sym k.runs)

pub one_table : (plan : PlanView) (indices others : List ℕ) (t u : CountTable) → IsPermutation indices others
    → IsTableWithStacks plan indices t → IsTableWithStacks plan others u → t ≡ u
one_table plan indices others t u p h k =
    one_of_jobs plan.results (jobs_at plan others) t u
    (in_order plan.results (jobs_at plan indices) (jobs_at plan others) t (IsPermutation-map _ indices others p)
    (of_places plan indices t h))
    (of_places plan others u k)
