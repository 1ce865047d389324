-- The texts reported for rows, one after another.
use Rattle.std.specs.Prelude.{ℕ, List, [], ◌∷◌}
use Rattle.std.specs.List.{concat}
use Rattle.rv_counting.specs.declared_row.Row.{Row}

-- the texts that `row_text` returns for the rows and the indices of their jobs, as a list
abbrev pub row_texts : (ℕ → Row → List ℕ) → List ℕ → List Row → List (List ℕ)
row_texts row_text [] rows = []
row_texts row_text (index ∷ indices) [] = []
row_texts row_text (index ∷ indices) (row ∷ rows) = row_text index row ∷ row_texts row_text indices rows

-- the texts that `row_text` returns for the rows and the indices of their jobs, one after another
abbrev pub joined_row_texts : (ℕ → Row → List ℕ) → List ℕ → List Row → List ℕ
joined_row_texts row_text indices rows = concat (row_texts row_text indices rows)
