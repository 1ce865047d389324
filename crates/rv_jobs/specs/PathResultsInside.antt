-- How the fields of `PathResults` fit together: the results so far, and the indices of their paths.
use Rattle.std.specs.Prelude.{◌≡◌, ℕ, List, map, length}
use Rattle.std.specs.HashMap.{get_by}
use Rattle.std.specs.Str.{bytes_eq}
use Rattle.rv_jobs.specs.declared.path_results.PathResult.{PathResult}
use Rattle.rv_jobs.specs.declared.path_results.PathResults.TheInside.{Inside}
use Rattle.rv_lists.specs.Names.{index_in}
use Rattle.rv_jobs.specs.Plans.{results_with}

-- the paths that were read, in order
abbrev pub paths_in : Inside → List (List ℕ)
paths_in a = map (λ p. p.now) a.paths.items

-- the path and the result of each read, in order, which is what contracts see of `PathResults`
abbrev pub results_of : Inside → List PathResult
results_of a = results_with (paths_in a) a.results.items

-- the invariant of the fields of `PathResults`: there is one result for each path that was read, and the map has the index of each path
pub record IsValidPathResults (a : Inside) : Type 0 where
  pub same_length : length (paths_in a) ≡ length a.results.items
  pub indices : (t : List ℕ)
      → get_by (λ k. bytes_eq t k.now) a.indices ≡ index_in (paths_in a) t
