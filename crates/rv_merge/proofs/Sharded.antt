-- The reports of a run's shards are its parts.
use Rattle.std.proofs.Common.{◌≡◌, ◌∙◌, ◌+◌, ◌-◌, ◌<◌, ◌≤◌, ℕ, zero, suc, Bool, true, false, ◌&&◌, cond, List, [], ◌∷◌}
use Rattle.std.proofs.Common.{length, map, get_or, Option, option_map, Some, None, refl, sym, ap, arith, subst}
use Rattle.std.specs.Prelude.{nat_le, slice_get, Any}
use Rattle.std.specs.List.{All, AllByRecursion, filter, list_all, range_with_len}
use Rattle.std.proofs.lemmas.Bool.{and_from}
use Rattle.std.proofs.lemmas.Bool.Decides.{nat_tests}
use Rattle.std.proofs.lemmas.List.{get_or-map, length-map}
use Rattle.std.proofs.lemmas.List.Elements.{All-from_recursion, recursion_from_All}
use Rattle.std.proofs.lemmas.List.FromFn.{get_or-range_with_len, length-range_with_len}
use Rattle.std.proofs.lemmas.Option.{get_or_from_slice_get, none-some, same_Some, slice_get-get_or, slice_get-map}
use Rattle.std.proofs.lemmas.Option.{slice_get_within}
use Rattle.rv_rows.specs.declared_job.Job.{Job}
use Rattle.rv_rows.specs.Names.{is_name}
use Rattle.rv_rows.specs.Limits.{max_jobs}
use Rattle.rv_rows.specs.Jobs.{single_job}
use Rattle.rv_rows.specs.declared_answers.PathResult.{PathResult}
use Rattle.rv_rows.specs.Selection.{selected_indices}
use Rattle.rv_rows.specs.Plans.{PlanView, jobs_needed_for}
use Rattle.rv_rows.specs.declared_row.Row.{Row}
use Rattle.rv_rows.specs.Rows.{row_of, rows_at, rows_of}
use Rattle.rv_rows.specs.SameResults.{HaveSameResults, plan_of_jobs}
use Rattle.rv_rows.specs.declared_saved.Extent.TheVariants as extent
use Rattle.rv_rows.specs.declared_saved.Shard.{Shard}
use Rattle.rv_rows.specs.Saved.{IsValidRow, IsValidReport, are_evenly_spaced, matches_job_numbers, is_valid_shard, row_names, saved_text}
use Rattle.rv_merge.specs.Parts.{AreValidRows, AreParts, IsPartOfRows, Run, shard_in}
use Rattle.rv_merge.specs.Shards.{AreShardTexts, IsRunOf, IsShardText, is_in_shard, shard_indices, shard_report}
use Rattle.rv_merge.proofs.Sharing.{new_under, rising_from, stepped_from}

-- ---- the places of marks

filter_on : (f g : ℕ → Bool) (xs : List ℕ) → AllByRecursion (λ x. f x ≡ g x) xs → filter f xs ≡ filter g xs
filter_on f g [] h = refl
filter_on f g (x ∷ xs) h =
    ap (λ (b : Bool). cond b (x ∷ filter f xs) (filter f xs)) h.0
    ∙ ap (λ (ys : List ℕ). cond (g x) (x ∷ ys) ys) (filter_on f g xs h.1)

pub marked_by : (f : ℕ → Bool) (count : ℕ)
    → selected_indices (map f (range_with_len 0 count)) count ≡ filter f (range_with_len 0 count)
marked_by f count =
    filter_on (λ place. get_or (map f (range_with_len 0 count)) place false) f (range_with_len 0 count)
    (recursion_from_All (λ x. get_or (map f (range_with_len 0 count)) x false ≡ f x) (range_with_len 0 count) each)
  where
    each : All (λ x. get_or (map f (range_with_len 0 count)) x false ≡ f x) (range_with_len 0 count)
    each k d within =
        let below : k < count = let a = length-range_with_len 0 count in omega arith in
        let at = get_or-range_with_len 0 count k d below in
        let is : get_or (range_with_len 0 count) k d ≡ k = omega arith in
        subst (λ (x : ℕ). get_or (map f (range_with_len 0 count)) x false ≡ f x) (sym is)
        (get_or-map f (range_with_len 0 count) k d false within ∙ ap f is)

-- ---- the rows at places

places_within : (f : ℕ → Bool) (a count last : ℕ) → a + count ≤ last
    → AllByRecursion (λ place. place < last) (filter f (range_with_len a count))
places_within f a zero last high = tt
places_within f a (suc count) last high =
    let rest = filter f (range_with_len (a + 1) count) in
    let later = places_within f (a + 1) count last (omega arith) in
    elim (f a) as (λ (b : Bool). AllByRecursion (λ place. place < last) (cond b (a ∷ rest) rest)) [
      | true ↦ (omega arith, later)
      | false ↦ later
    ]

rows_there : (plan : PlanView) (places : List ℕ) → AllByRecursion (λ place. place < length plan.jobs) places
    → map (λ m. slice_get (rows_of plan) (m - 1)) (map (λ place. place + 1) places) ≡ map Some (rows_at plan places)
unfolding rows_of rows_at
rows_there plan [] h = refl
rows_there plan (place ∷ places) h =
    let none = single_job [] 0 [] in
    let is : place + 1 - 1 ≡ place = omega arith in
    let row = row_of plan (get_or plan.jobs place none) in
    let first : slice_get (map (row_of plan) plan.jobs) (place + 1 - 1) ≡ Some row =
    ap (slice_get (map (row_of plan) plan.jobs)) is
    ∙ slice_get-map (row_of plan) plan.jobs place
    ∙ ap (option_map (row_of plan)) (slice_get-get_or plan.jobs place none h.0) in
    ap (λ o. o ∷ map (λ m. slice_get (rows_of plan) (m - 1)) (map (λ p. p + 1) places)) first
    ∙ ap (λ os. Some (row_of plan (get_or plan.jobs place none)) ∷ os) (rows_there plan places h.1)

length_rows : (plan : PlanView) → length (rows_of plan) ≡ length plan.jobs
unfolding rows_of
length_rows plan = length-map plan.jobs (row_of plan)

length_at : (plan : PlanView) (places : List ℕ) → length (rows_at plan places) ≡ length places
unfolding rows_at
length_at plan places = length-map places (λ i. row_of plan (get_or plan.jobs i (single_job [] 0 [])))

-- ---- rows of a list under rising numbers

named : (rows : List Row) → AllByRecursion IsValidRow rows → list_all is_name (row_names rows) ≡ true
named [] h = refl
named (row ∷ rows) h = and_from (is_name row.name) (list_all is_name (row_names rows)) h.0.name (named rows h.1)

module _ (rows some : List Row) (ns : List ℕ) (has : map (λ m. slice_get rows (m - 1)) ns ≡ map Some some) where
  number_of : (k : ℕ) (row : Row) → slice_get some k ≡ Some row
      → (n : ℕ) × (slice_get ns k ≡ Some n) × (slice_get rows (n - 1) ≡ Some row)
  number_of k row at =
      let is : option_map (λ (m : ℕ). slice_get rows (m - 1)) (slice_get ns k) ≡ Some (Some row) =
      sym (slice_get-map (λ (m : ℕ). slice_get rows (m - 1)) ns k) ∙ ap (λ xs. slice_get xs k) has
      ∙ slice_get-map Some some k ∙ ap (option_map Some) at in
      there (slice_get ns k) refl is
    where
      there : (o : Option ℕ) → slice_get ns k ≡ o
          → option_map (λ (m : ℕ). slice_get rows (m - 1)) o ≡ Some (Some row)
          → (n : ℕ) × (slice_get ns k ≡ Some n) × (slice_get rows (n - 1) ≡ Some row)
      there None e is = absurd (none-some (Some row) is)
      there (Some n) e is = (n, e, same_Some (slice_get rows (n - 1)) (Some row) is)

  good_under : All IsValidRow rows → All IsValidRow some
  good_under good k d within =
      let row = get_or some k d in
      let at : slice_get some k ≡ Some row = slice_get-get_or some k d within in
      let r = number_of k row at in
      subst IsValidRow (get_or_from_slice_get rows (r.0 - 1) row row r.2)
      (good (r.0 - 1) row (slice_get_within rows (r.0 - 1) row r.2))

  name_under : (k : ℕ) (t : List ℕ) → slice_get (row_names some) k ≡ Some t
      → (n : ℕ) × (slice_get ns k ≡ Some n) × (slice_get (row_names rows) (n - 1) ≡ Some t)
  name_under k t at = there (slice_get some k) refl (sym (slice_get-map (λ (row : Row). row.name) some k) ∙ at)
    where
      there : (o : Option Row) → slice_get some k ≡ o → option_map (λ (row : Row). row.name) o ≡ Some t
          → (n : ℕ) × (slice_get ns k ≡ Some n) × (slice_get (row_names rows) (n - 1) ≡ Some t)
      there None e is = absurd (none-some t is)
      there (Some row) e is =
          let r = number_of k row e in (
            r.0,
            r.1,
            slice_get-map (λ (x : Row). x.name) rows (r.0 - 1) ∙ ap (option_map (λ (x : Row). x.name)) r.2 ∙ is,
          )

-- ---- a shard's report

is_shard_in : (run : Run) (n : ℕ) → 0 < n → n ≤ run.shards → run.shards ≤ max_jobs → run.jobs ≤ max_jobs
    → is_name run.stamp ≡ true → is_valid_shard (shard_in run n) ≡ true
unfolding is_valid_shard
is_shard_in run n low high few jobs stamp =
    let a : nat_le 1 n ≡ true = grind (arith, nat_tests) in
    let b : nat_le n run.shards ≡ true = grind (arith, nat_tests) in
    let c : nat_le run.shards max_jobs ≡ true = grind (arith, nat_tests) in
    let d : nat_le run.jobs max_jobs ≡ true = grind (arith, nat_tests) in
    let last = nat_le run.jobs max_jobs && is_name run.stamp in
    let then = nat_le run.shards max_jobs && last in
    and_from (nat_le 1 n) (nat_le n run.shards && then) a
    (and_from (nat_le n run.shards) then b
    (and_from (nat_le run.shards max_jobs) last c
    (and_from (nat_le run.jobs max_jobs) (is_name run.stamp) d stamp)))

fits_in : (s : Shard) (ns : List ℕ) → is_valid_shard s ≡ true → are_evenly_spaced s.number s.shards s.jobs ns ≡ true
    → matches_job_numbers (extent.Shard s) ns ≡ true
unfolding matches_job_numbers
fits_in s ns a b = and_from (is_valid_shard s) (are_evenly_spaced s.number s.shards s.jobs ns) a b

module _ (list : List Job) (answers : List PathResult) (run : Run) (listed : AreValidRows (rows_of (plan_of_jobs list answers)))
    (is : IsRunOf list run) where
  plan : PlanView
  plan = plan_of_jobs list answers

  has_rows : (n : ℕ)
      → map (λ m. slice_get (rows_of (plan_of_jobs list answers)) (m - 1))
      (map (λ place. place + 1) (shard_indices run.shards n run.jobs))
      ≡ map Some (rows_at (plan_of_jobs list answers) (shard_indices run.shards n run.jobs))
  has_rows n =
      let jobs = is.jobs in
      rows_there (plan_of_jobs list answers) (shard_indices run.shards n run.jobs)
      (places_within (is_in_shard run.shards n) 0 run.jobs (length list) (omega arith))

  saved : (n : ℕ) → 0 < n → n ≤ run.shards → IsValidReport (shard_report run n (plan_of_jobs list answers))
  saved n low high =
      let rows = rows_of (plan_of_jobs list answers) in
      let places = shard_indices run.shards n run.jobs in
      let some = rows_at (plan_of_jobs list answers) places in
      let ns = map (λ place. place + 1) places in
      let few = listed.few in
      let long = length_rows (plan_of_jobs list answers) in
      let jobs = is.jobs in
      let rises = rising_from (is_in_shard run.shards n) 0 max_jobs 0 run.jobs (omega arith) (omega arith) in
      let stepped : are_evenly_spaced n run.shards (0 + run.jobs) ns ≡ true =
      stepped_from run.shards n n 0 run.jobs low high low (omega arith) refl in
      let last : 0 + run.jobs ≡ run.jobs = omega arith in
      let good = good_under rows some ns (has_rows n) (All-from_recursion IsValidRow rows listed.good) in
      let goods = recursion_from_All IsValidRow some good in
      record {
        listed = record {
          counted = length-map places (λ place. place + 1) ∙ sym (length_at (plan_of_jobs list answers) places);
          rising = rises;
          fits = fits_in (shard_in run n) ns
              (is_shard_in run n low high is.few (omega arith) is.stamp)
              (subst (λ (k : ℕ). are_evenly_spaced n run.shards k ns ≡ true) last stepped);
          names = named some goods;
          new = new_under 0 max_jobs ns (row_names rows) (row_names some) listed.new rises
              (name_under rows some ns (has_rows n));
        };
        rows = goods;
      }

  part_from : ((places : List ℕ) (some : List PathResult) → All (HaveSameResults some answers) (jobs_needed_for list places)
      → rows_at (plan_of_jobs list some) places ≡ rows_at (plan_of_jobs list answers) places)
      → (n : ℕ) (bytes : List ℕ) → IsShardText list answers run n bytes
      → IsPartOfRows (rows_of (plan_of_jobs list answers)) run n bytes
  part_from law n bytes t =
      let places = shard_indices run.shards n run.jobs in
      let same = law places t.kept t.same in
      let report = shard_report run n (plan_of_jobs list answers) in
      record {
        of = record {
          report = report;
          saved = saved n t.low t.high;
          text = sym (t.text ∙ ap (λ (rows : List Row). saved_text (record {
            extent = extent.Shard (shard_in run n);
            numbers = map (λ place. place + 1) (shard_indices run.shards n run.jobs);
            rows = rows;
          })) same);
          extent = refl;
        };
        has = has_rows n;
      }

  any_from : ((bytes : List ℕ) (n : ℕ) → IsShardText list answers run n bytes
      → IsPartOfRows (rows_of (plan_of_jobs list answers)) run n bytes)
      → (n : ℕ) (texts : List (List ℕ)) → Any (IsShardText list answers run n) texts
      → Any (IsPartOfRows (rows_of (plan_of_jobs list answers)) run n) texts
  any_from f n texts (k, x, within, here, t) = (k, x, within, here, f x n t)

  pub parts_from : ((places : List ℕ) (some : List PathResult) → All (HaveSameResults some answers) (jobs_needed_for list places)
      → rows_at (plan_of_jobs list some) places ≡ rows_at (plan_of_jobs list answers) places)
      → (texts : List (List ℕ)) → AreShardTexts list answers run texts
      → AreParts (rows_of (plan_of_jobs list answers)) texts
  parts_from law texts from = record {
    listed = listed;
    run = run;
    parts = record {
      jobs = is.jobs ∙ sym (length_rows (plan_of_jobs list answers));
      some = is.some;
      each = λ k d within.
          let t = from.each k d within in
          (t.0, part_from law t.0 (get_or texts k d) t.1);
      all = λ n low high. any_from (λ bytes m t. part_from law m bytes t) n texts (from.all n low high);
    };
  }
