use Rattle.std.proofs.Common.{◌≡◌, ℕ, length, None}
use Rattle.std.specs.Prelude.{slice_index_or}
use Rattle.rv_jobs.proofs.path_reading.empty_result_indices.Given as goal

abbrev pub invariant-loop : goal.invariant-loop
invariant-loop l = (length l.recorded.items ≡ l.index) × ((k : ℕ) → slice_index_or l.recorded.items k None ≡ None)
