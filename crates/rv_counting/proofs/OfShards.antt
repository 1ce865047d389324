-- The tables of shards are those of parts of the places.
use Rattle.std.proofs.Common.{◌≡◌, ◌∙◌, ◌==◌, ◌+◌, ◌%◌, ◌<◌, ℕ, suc, List, [], ◌∷◌, ◌++◌, append-nil, append_assoc, length, get_or, sym, ap, subst, arith}
use Rattle.std.proofs.lemmas.List.{map-append}
use Rattle.std.proofs.lemmas.List.Sorted.{IsPermutation-map}
use Rattle.std.specs.List.{filter}
use Rattle.rv_count_tables.specs.declared.table.CountTable.{CountTable}
use Rattle.rv_count_tables.specs.Sum.{no_counts}
use Rattle.rv_count_tables.specs.Text.{table_text}
use Rattle.rv_trace.specs.declared_job.Job.{Job}
use Rattle.rv_trace.specs.Plans.{PlanView}
use Rattle.rv_counting.specs.JobTables.{jobs_at, AreTablesOfShards, IsTableOfJobs, IsTableOfJobsAt, SumsTo}
use Rattle.rv_counting.proofs.OfJobs.{joined, none_of_none}
use Rattle.rv_counting.proofs.Orders.{one_table_of_jobs, reordered}
use Rattle.rv_counting.proofs.Parted.{all_parts, joined_parts}

module _ (plan : PlanView) (part : ℕ → ℕ) (indices : List ℕ) where
  shards_from : (from : ℕ) (js : List Job) (ts : List CountTable) (start sum : CountTable)
      → IsTableOfJobs plan.results js start
      → ((k : ℕ) (d : CountTable) → k < length ts
      → IsTableOfJobsAt plan (filter (λ index. part index == from + k) indices) (get_or ts k d))
      → SumsTo start ts sum
      → IsTableOfJobs plan.results (js ++ jobs_at plan (joined_parts part from (length ts) indices)) sum
  shards_from from js [] start sum h each sums =
      subst (λ t. IsTableOfJobs plan.results (js ++ []) t) sums
      (subst (λ ks. IsTableOfJobs plan.results ks start) (sym (append-nil js)) h)
  shards_from from js (t ∷ ts) start sum h each sums =
      let shard = filter (λ index. part index == from) indices in
      let rest = joined_parts part (from + 1) (length ts) indices in
      let here : from + 0 ≡ from = omega arith in
      let one = subst (λ n. IsTableOfJobsAt plan (filter (λ index. part index == n) indices) t) here (each 0 t (omega arith)) in
      let next = joined plan.results js (jobs_at plan shard) start t sums.0 h one sums.1 in
      let all = shards_from (from + 1) (js ++ jobs_at plan shard) ts sums.0 sum next
      (λ k d lt. let e : from + suc k ≡ from + 1 + k = omega arith in
      subst (λ n. IsTableOfJobsAt plan (filter (λ index. part index == n) indices) (get_or ts k d)) e
      (each (suc k) d (omega arith)))
      sums.2 in
      subst (λ ks. IsTableOfJobs plan.results ks sum)
      (append_assoc js (jobs_at plan shard) (jobs_at plan rest) ∙ ap (λ ks. js ++ ks) (sym (map-append _ shard rest))) all

pub of_shards : (plan : PlanView) (shards : ℕ) (indices : List ℕ) (ts : List CountTable) (sum whole : CountTable)
    → 0 < shards → AreTablesOfShards plan shards indices ts → SumsTo no_counts ts sum → IsTableOfJobsAt plan indices whole
    → table_text sum ≡ table_text whole
of_shards plan shards indices ts sum whole some tables sums h =
    let part = λ (index : ℕ). index % shards in
    let count = tables.count in
    let all = shards_from plan part indices 0 [] ts no_counts sum (none_of_none plan.results)
    (λ k d lt. let e : k ≡ 0 + k = omega arith in
    subst (λ n. IsTableOfJobsAt plan (filter (λ index. part index == n) indices) (get_or ts k d)) e
    (tables.each k d (omega (arith, count, lt))))
    sums in
    let parts = subst (λ n. IsTableOfJobs plan.results (jobs_at plan (joined_parts part 0 n indices)) sum) count all in
    let order = all_parts part shards indices (λ index. omega (arith, some)) in
    ap table_text
    (one_table_of_jobs plan.results (jobs_at plan indices) sum whole
    (reordered plan.results (jobs_at plan (joined_parts part 0 shards indices)) (jobs_at plan indices) sum
    (IsPermutation-map _ (joined_parts part 0 shards indices) indices order) parts) h)
