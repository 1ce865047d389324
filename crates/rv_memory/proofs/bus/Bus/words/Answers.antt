use Rattle.std.proofs.Common.{◌∙◌, ◌+◌, ◌*◌, ◌-◌, sym, ap, arith, map}
use Rattle.std.proofs.lemmas.List.FromFn.{map-range_with_len_more}
use Rattle.std.specs.List.{range_with_len}
use Rattle.rv_memory.specs.Bus.{word_at}
use Rattle.rv_memory.specs.SignatureWords.{words_of}
use Rattle.rv_memory.proofs.Accesses.{in_one-part}
use Rattle.rv_memory.proofs.bus.Bus.words.Goals as goal

pub word-requires : goal.word-requires
word-requires c =
    in_one-part c.args.self.now.regions c.args.begin (c.args.end - c.args.begin) (4 * c.loop-k.k) 4 (omega arith)
    (omega arith) c.requires.within

pub loop-k-preserved : goal.loop-k-preserved
loop-k-preserved c = c.in_ok-push.ensures.items
    ∙ rw (c.loop-k.invariant, c.word.ensures)
    (sym (map-range_with_len_more (λ j. word_at c.args.self.now.memory (c.args.begin + 4 * j)) 0 c.loop-k.k c.loop-k.k
    (omega arith)))

pub returns : goal.returns
unfolding words_of
returns c = c.loop-k.invariant
    ∙ ap (λ n. map (λ k. word_at c.args.self.now.memory (c.args.begin + 4 * k)) (range_with_len 0 n)) (omega arith)
