-- The tables of places that are added one after another.
use Rattle.std.proofs.Common.{◌≡◌, ◌+◌, ◌<◌, ◌⊎◌, ℕ, List, [], ◌∷◌, ◌++◌, Option, Result, Ok, map, length, take, get_or, sym, subst, arith, inr}
use Rattle.std.proofs.lemmas.List.{map-append, take_all, take_more}
use Rattle.std.proofs.lemmas.Result.{IfErr-weaker, IfOk-weaker}
use Rattle.std.specs.Prelude.{is_some, true, IfErr, IfOk}
use Rattle.rv_count_tables.specs.declared.sum.SumError.{SumError}
use Rattle.rv_count_tables.specs.declared.table.CountTable.{CountTable}
use Rattle.rv_count_tables.specs.Sum.{IsSumOfTables, no_counts}
use Rattle.rv_counting.proofs.Public.{sum_added, sum_refused, NextRefused}
use Rattle.rv_counting.specs.JobTables.{jobs_at}
use Rattle.rv_counting.specs.TableSums.{sum_or_error, AreTablesAdded}
use Rattle.rv_counting.specs.declared_listener.Flow.{Flow}
use Rattle.rv_counting.specs.Results.{IsRunDelivered}
use Rattle.rv_counting.specs.Plans.{PlanView}
use Rattle.rv_stacks.specs.StackTables.{IsNextTableNotAdded, HaveNoTableWithStacks, IsTableWithStacks}
use Rattle.rv_stacks.proofs.Apart.{counts_and_stacks}
use Rattle.rv_stacks.proofs.WithStacks.{of_both, of_none, of_places, IsOfJobs}

module _ (plan : PlanView) where
  of_no_place : IsTableWithStacks plan [] no_counts
  of_no_place = counts_and_stacks plan [] no_counts (of_none plan.results)

  one_more : (ps : List ℕ) (p : ℕ) (t u next : CountTable) → IsTableWithStacks plan ps t → IsTableWithStacks plan (p ∷ []) u
      → IsSumOfTables t u next → IsTableWithStacks plan (ps ++ p ∷ []) next
  one_more ps p t u next h one sums =
      counts_and_stacks plan (ps ++ p ∷ []) next
      (subst (λ js. IsOfJobs plan.results js next) (sym (map-append _ ps (p ∷ [])))
      (of_both plan.results (jobs_at plan ps) (jobs_at plan (p ∷ [])) t u next (of_places plan ps t h)
      (of_places plan (p ∷ []) u one) sums))

  module _ (indices : List ℕ) (sum : CountTable) (failed : Option SumError) (flow : Flow)
      (received : IsRunDelivered (λ n u. IsTableWithStacks plan (get_or indices n 0 ∷ []) u) (length indices)
      (λ ts. AreTablesAdded sum failed (map (λ (u : CountTable). u) ts)) (is_some failed ≡ true) (Ok flow)) where
    abbrev OfFirst : ℕ → CountTable → Type 0
    OfFirst n t = IsTableWithStacks plan (take n indices) t

    abbrev OfOne : ℕ → CountTable → Type 0
    OfOne n u = IsTableWithStacks plan (get_or indices n 0 ∷ []) u

    next_place : (n : ℕ) (t u next : CountTable) → n < length indices → OfFirst n t → OfOne n u → IsSumOfTables t u next → OfFirst (n + 1) next
    next_place n t u next lt h one sums =
        subst (λ ps. IsTableWithStacks plan ps next) (sym (take_more indices n 0 lt))
        (one_more (take n indices) (get_or indices n 0) t u next h one sums)

    pub all_added : IfOk (sum_or_error sum failed) (IsTableWithStacks plan indices)
    all_added =
        IfOk-weaker (sum_or_error sum failed) (OfFirst (length indices)) (IsTableWithStacks plan indices)
        (λ t h. subst (λ ps. IsTableWithStacks plan ps t) (take_all (length indices) indices (omega arith)) h)
        (sum_added OfFirst OfOne (length indices) of_no_place next_place sum failed flow received)

    refused_here : (error : SumError) → NextRefused OfFirst OfOne (length indices) error → IsNextTableNotAdded plan indices error
    refused_here error h = record {
      count = h.count;
      within = h.within;
      first = h.first;
      next = h.next;
      of_first = h.of_first;
      of_next = h.of_next;
      refused = h.refused;
    }

    pub next_refused : IfErr (sum_or_error sum failed) (HaveNoTableWithStacks plan indices)
    next_refused =
        IfErr-weaker (sum_or_error sum failed) (λ error. NextRefused OfFirst OfOne (length indices) error)
        (HaveNoTableWithStacks plan indices) (λ error h. inr (refused_here error h))
        (sum_refused OfFirst OfOne (length indices) of_no_place next_place sum failed flow received)
