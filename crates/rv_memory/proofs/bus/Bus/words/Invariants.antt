use Rattle.std.proofs.Common.{◌≡◌, ◌+◌, ◌*◌, map}
use Rattle.std.specs.List.{range_with_len}
use Rattle.rv_memory.specs.Bus.{word_at}
use Rattle.rv_memory.proofs.bus.Bus.words.Given as goal

abbrev pub invariant-loop-k : goal.invariant-loop-k
invariant-loop-k l = l.words.items ≡ map (λ j. word_at l.self.memory (l.begin + 4 * j)) (range_with_len 0 l.k)
