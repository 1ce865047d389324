-- Tables of jobs: of one, of some more, and of the same in another order.
use Rattle.std.proofs.Common.{Fits, w8, ◌≡◌, ◌∙◌, ◌==◌, ◌+◌, ◌^◌, ◌<◌, inl, inr, ℕ, suc, Bool, true, false, cond, List, [], ◌∷◌, ◌++◌, Option, Some, None, Result, Ok, Err, option_map, get_or, refl, sym, ap, subst, arith}
use Rattle.std.proofs.lemmas.Bool.{false≢true}
use Rattle.std.proofs.lemmas.List.Sums.{sum_by-append}
use Rattle.std.specs.Prelude.{is_ok}
use Rattle.std.specs.List.{AllByRecursion}
use Rattle.std.specs.Result.{result_ok}
use Rattle.std.specs.Cmp.Lexicographic.{bytes_decides}
use Rattle.std.specs.Str.{bytes_eq}
use Rattle.sha2.specs.Sha256.{sha256}
use Rattle.rv_count_tables.proofs.Public.{any_first}
use Rattle.rv_count_tables.specs.declared.table.AddressCounts.{AddressCounts}
use Rattle.rv_count_tables.specs.declared.table.CountTable.{CountTable}
use Rattle.rv_count_tables.specs.declared.table.FunctionName.{FunctionName}
use Rattle.rv_count_tables.specs.declared.table.ImageCounts.{ImageCounts}
use Rattle.rv_count_tables.specs.declared.sum.SumError.TheVariants.{Names}
use Rattle.rv_count_tables.specs.Sum.{HasName, HasNameIn, HaveNoSum, IsSumOfTables, no_counts}
use Rattle.rv_count_tables.specs.Table.{name_at, name_in, min_text, min_text_of, digests_increase_from, functions_increase_from, AreValidNames, AreNamesOf, AreValidNodes, IsValidImage, IsValidTable}
use Rattle.rv_trace.specs.declared_answers.PathResult.{PathResult}
use Rattle.rv_trace.specs.declared_job.Job.{Job}
use Rattle.rv_trace.specs.State.{State}
use Rattle.rv_fleet.specs.declared_row.Refusal.{Refusal}
use Rattle.rv_trace.specs.Rows.{start_state_in}
use Rattle.rv_counting.specs.Coverage.{executed_in_run, taken_in_run}
use Rattle.rv_counting.specs.JobTables.{has_digest, start_state_of_image, executed_from, taken_from, executed_by, taken_by, path_by, runs_by, first_path, table_of_runs, HasNoStacks, IsTableOfFew, IsTableOfJobs}
use Rattle.rv_trace.specs.Trace.{image_bytes}

none_rise : digests_increase_from None [] ≡ true
unfolding digests_increase_from
none_rise = refl

pub no_names : AreValidNames []
unfolding functions_increase_from
no_names = record { each = tt; rising = refl }

pub no_owners : AreNamesOf [] []
no_owners f = refl

pub no_spots : AreValidNodes []
no_spots = record { each = tt; tree = tt }

pub one_rises : (i : ImageCounts) → digests_increase_from None (i ∷ []) ≡ true
unfolding digests_increase_from
one_rises i = refl

pub no_counts_is_table : IsValidTable no_counts
no_counts_is_table = record { images = tt; rising = none_rise; few = omega arith; runs = omega arith }

-- the table of one image, in some runs
pub one_image_is_table : (i : ImageCounts) (runs : ℕ) (t : CountTable) → t ≡ record { images = i ∷ []; runs = runs } → runs < 2 ^ 64
    → IsValidImage i → IsValidTable t
one_image_is_table i runs t is few h = subst IsValidTable (sym is) (
    record {
      images = (h, tt);
      rising = one_rises i;
      few = omega arith;
      runs = few;
    }
    )

-- ---- tables without stacks

pub no_counts_have_none : HasNoStacks no_counts
no_counts_have_none = record { names = λ digest f. refl; calls = λ digest path. refl; steps = λ digest path. refl }

no_name_either : (b : Bool) → min_text_of (cond b None None) None ≡ None
no_name_either true = refl
no_name_either false = refl

pub none_either : (b : Bool) → cond b 0 0 + 0 ≡ 0
none_either true = omega arith
none_either false = omega arith

pub run_has_none : (runs : ℕ) (path file : List ℕ) (cs : List AddressCounts) → HasNoStacks (table_of_runs runs path file cs)
run_has_none runs path file cs = record {
  names = λ digest f. no_name_either (bytes_eq (sha256 file) digest);
  calls = λ digest at. none_either (bytes_eq (sha256 file) digest);
  steps = λ digest at. none_either (bytes_eq (sha256 file) digest);
}

pub sum_has_none : (t u sum : CountTable) → HasNoStacks t → HasNoStacks u → IsSumOfTables t u sum → HasNoStacks sum
sum_has_none t u sum h k is = record {
  names = λ digest f. is.names digest f ∙ (λ i. min_text_of (h.names digest f i) (k.names digest f i));
  calls = λ digest path.
      let s = is.calls digest path in
      let p = h.calls digest path in
      let q = k.calls digest path in
      omega (arith, s, p, q);
  steps = λ digest path.
      let s = is.steps digest path in
      let p = h.steps digest path in
      let q = k.steps digest path in
      omega (arith, s, p, q);
}

-- no function of such a table has a name
some_is_none : (name : List ℕ) → Some name ≡ None → ⊥
some_is_none name h = cc

none_of_either : (o p : Option (List ℕ)) → min_text_of o p ≡ None → (o ≡ None) × (p ≡ None)
none_of_either None p h = (refl, h)
none_of_either (Some name) None h = absurd (some_is_none name h)
none_of_either (Some name) (Some other) h = absurd (some_is_none (min_text name other) h)

no_name_here : (t : Bool) (name : List ℕ) → t ≡ true → cond t (Some name) None ≡ None → ⊥
no_name_here true name h e = some_is_none name e
no_name_here false name h e = false≢true h

is_here : (n f : ℕ) → n ≡ f → (n == f) ≡ true
is_here n f e = grind (arith, e)

no_name_of : (f : ℕ) (name : List ℕ) (ns : List FunctionName) → name_at f ns ≡ None → HasName f name ns → ⊥
no_name_of f name [] none has = has
no_name_of f name (n ∷ ns) none (inl is) =
    no_name_here (n.function == f) n.name (is_here n.function f is.0) (none_of_either (cond (n.function == f) (Some n.name) None) (name_at f ns) none).0
no_name_of f name (n ∷ ns) none (inr more) =
    no_name_of f name ns (none_of_either (cond (n.function == f) (Some n.name) None) (name_at f ns) none).1 more

taken_if : (t : Bool) (o : Option (List ℕ)) → t ≡ true → cond t o None ≡ None → o ≡ None
taken_if true o h e = e
taken_if false o h e = absurd (false≢true h)

no_name_in : (digest : List ℕ) (f : ℕ) (name : List ℕ) (is : List ImageCounts) → name_in digest f is ≡ None
    → HasNameIn digest f name is → ⊥
no_name_in digest f name [] none has = has
no_name_in digest f name (i ∷ is) none (inl here) =
    no_name_of f name i.functions (taken_if (bytes_eq i.digest digest) (name_at f i.functions) ((bytes_decides i.digest digest).1 here.0)
    (none_of_either (cond (bytes_eq i.digest digest) (name_at f i.functions) None) (name_in digest f is) none).0) here.1
no_name_in digest f name (i ∷ is) none (inr more) =
    no_name_in digest f name is
    (none_of_either (cond (bytes_eq i.digest digest) (name_at f i.functions) None) (name_in digest f is) none).1 more

pub no_two_names : (t u : CountTable) (f : ℕ) → HasNoStacks t → HaveNoSum (Names f) t u → ⊥
no_two_names t u f h have = no_name_in have.0 f have.1 t.images (h.names have.0 f) have.3

pub no_counts_are_few : (n : ℕ) → IsTableOfFew n no_counts
no_counts_are_few n = record { executed = λ digest address. omega arith; runs = omega arith; stacks = no_counts_have_none }

pub none_of_none : (answers : List PathResult) → IsTableOfJobs answers [] no_counts
none_of_none answers = record {
  table = no_counts_is_table;
  executed = λ digest address. refl;
  taken = λ digest address. refl;
  paths = λ digest. refl;
  runs = refl;
  stacks = no_counts_have_none;
}

-- ---- what callees promise

pub bytes_fit : (xs : List ℕ) → ((i : ℕ) → Fits w8 (get_or xs i 0)) → AllByRecursion (λ b. b < 256) xs
bytes_fit [] h = tt
bytes_fit (x ∷ xs) h = (let k = (h 0).fits in omega (arith, k), bytes_fit xs (λ i. h (suc i)))

-- ---- one job

picked_none : (b : Bool) (o : Option State) → o ≡ None → cond b o None ≡ None
picked_none true o h = h
picked_none false o h = refl

pub none_if_no_ok : (r : Result State Refusal) → ((s : State) → r ≡ Ok s → ⊥) → result_ok r ≡ None
none_if_no_ok (Ok s) h = absurd (h s refl)
none_if_no_ok (Err why) h = refl

pub not_ok_if_none : (r : Result State Refusal) → result_ok r ≡ None → is_ok r ≡ false
not_ok_if_none (Ok s) h = cc
not_ok_if_none (Err why) h = refl

pub picked_begun : (b : Bool) (n address budget : ℕ) (s : State) → n ≡ executed_in_run address budget s
    → cond b n 0 ≡ executed_from address budget (cond b (Some s) None)
picked_begun true n address budget s h = h
picked_begun false n address budget s h = refl

pub picked_taken : (b : Bool) (n address budget : ℕ) (s : State) → n ≡ taken_in_run address budget s
    → cond b n 0 ≡ taken_from address budget (cond b (Some s) None)
picked_taken true n address budget s h = h
picked_taken false n address budget s h = refl

pub picked_path : (b : Bool) (path : List ℕ) (s : State)
    → cond b (Some path) None ≡ option_map (λ (t : State). path) (cond b (Some s) None)
picked_path true path s = refl
picked_path false path s = refl

module _ (answers : List PathResult) (job : Job) where
  pub not_over : (digest : List ℕ) → result_ok (start_state_in answers job) ≡ None → start_state_of_image answers digest job ≡ None
  unfolding start_state_of_image
  not_over digest none = picked_none (has_digest digest (image_bytes answers job)) (result_ok (start_state_in answers job)) none

  pub over : (digest file : List ℕ) (s : State) → image_bytes answers job ≡ Some file → start_state_in answers job ≡ Ok s
      → start_state_of_image answers digest job ≡ cond (bytes_eq (sha256 file) digest) (Some s) None
  unfolding start_state_of_image
  over digest file s bytes start = λ i. cond (has_digest digest (bytes i)) (result_ok (start i)) None

-- ---- jobs of both

pub first_path-append : (answers : List PathResult) (digest : List ℕ) (js ks : List Job) → first_path answers digest (js ++ ks)
    ≡ min_text_of (first_path answers digest js) (first_path answers digest ks)
first_path-append answers digest [] ks = refl
first_path-append answers digest (j ∷ js) ks =
    ap (min_text_of (path_by answers digest j)) (first_path-append answers digest js ks)
    ∙ sym (any_first (path_by answers digest j) (first_path answers digest js) (first_path answers digest ks))

pub joined : (answers : List PathResult) (js ks : List Job) (t u sum : CountTable) → IsTableOfJobs answers js t
    → IsTableOfJobs answers ks u → IsSumOfTables t u sum → IsTableOfJobs answers (js ++ ks) sum
joined answers js ks t u sum h k is = record {
  table = is.table;
  executed = λ digest address.
      let s = is.executed digest address in
      let p = h.executed digest address in
      let q = k.executed digest address in
      let e = sum_by-append (executed_by answers digest address) js ks in
      omega (arith, s, p, q, e);
  taken = λ digest address.
      let s = is.taken digest address in
      let p = h.taken digest address in
      let q = k.taken digest address in
      let e = sum_by-append (taken_by answers digest address) js ks in
      omega (arith, s, p, q, e);
  paths = λ digest.
      is.paths digest ∙ (λ i. min_text_of (h.paths digest i) (k.paths digest i))
      ∙ sym (first_path-append answers digest js ks);
  runs = (let s = is.runs in
      let p = h.runs in
      let q = k.runs in
      let e = sum_by-append (runs_by answers) js ks in
      omega (arith, s, p, q, e));
  stacks = sum_has_none t u sum h.stacks k.stacks is;
}

-- ---- numbers that fit

pub few_more : (n m : ℕ) (t u sum : CountTable) → IsTableOfFew n t → IsTableOfFew m u → IsSumOfTables t u sum
    → IsTableOfFew (n + m) sum
few_more n m t u sum h k is = record {
  executed = λ digest address.
      let s = is.executed digest address in
      let p = h.executed digest address in
      let q = k.executed digest address in
      omega (arith, s, p, q);
  runs = (let s = is.runs in let p = h.runs in let q = k.runs in omega (arith, s, p, q));
  stacks = sum_has_none t u sum h.stacks k.stacks is;
}
