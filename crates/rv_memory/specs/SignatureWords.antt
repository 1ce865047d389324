-- The words of a memory range, such as the signature at the end of a run.
use Rattle.std.specs.Prelude.{ℕ, ◌+◌, ◌-◌, ◌*◌, ◌/◌, List, map}
use Rattle.std.specs.List.{range_with_len}
use Rattle.std.specs.Ordering.{nat_cmp}
use Rattle.std.specs.FinMap as fin
use Rattle.rv_memory.specs.Bus.{word_at}

-- the little-endian words of the memory `m` at `begin`, `begin` + 4, and so on, below `end`
unfoldable pub words_of : fin.FinMap nat_cmp ℕ → ℕ → ℕ → List ℕ
words_of m begin end = map (λ k. word_at m (begin + 4 * k)) (range_with_len 0 ((end - begin) / 4))
