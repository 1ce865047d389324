use Rattle.std.proofs.Common.{◌≡◌, ◌+◌, ◌*◌, map, take}
use Rattle.std.specs.List.{range_with_len}
use Rattle.rv_memory.specs.Bus.{word_at}
use Rattle.rv_memory.proofs.bus.Bus.has_words.Given as goal

abbrev pub invariant-loop-at : goal.invariant-loop-at
invariant-loop-at l = take l.at l.words ≡ map (λ j. word_at l.self.memory (l.begin + 4 * j)) (range_with_len 0 l.at)
