-- A selection of jobs.
use Rattle.std.specs.Prelude.{ℕ, Bool, false, List, slice_index_or}
use Rattle.std.specs.List.{filter, range_with_len}

-- the indices below `count` of the selected jobs, in order; `selection` says for each job whether it is selected
abbrev pub selected_indices : List Bool → ℕ → List ℕ
selected_indices selection count = filter (λ index. slice_index_or selection index false) (range_with_len 0 count)
