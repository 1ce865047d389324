use Rattle.std.proofs.Common.{◌∙◌, ◌+◌, ◌*◌, ◌-◌, ◌/◌, add-one, ℕ, List, length, get_or, refl, sym, ap}
use Rattle.std.proofs.Common.{arith, map, take_all}
use Rattle.std.proofs.Math.Seq.{take-suc}
use Rattle.std.proofs.lemmas.List.FromFn.{get_or-map-range_with_len, length-map-range_with_len, map-range_with_len_more}
use Rattle.std.specs.List.{range_with_len}
use Rattle.rv_memory.specs.Bus.{word_at}
use Rattle.rv_memory.specs.SignatureWords.{words_of}
use Rattle.rv_memory.proofs.Accesses.{in_one-part}
use Rattle.rv_memory.proofs.bus.Bus.has_words.Goals as goal

pub word-requires : goal.word-requires
word-requires c =
    in_one-part c.args.self.now.regions c.args.begin (c.args.end - c.args.begin) (4 * c.loop-at.at) 4
    (omega arith) (omega arith) c.requires.within

pub returns-then-words-count : goal.returns-then-words-count
unfolding words_of
returns-then-words-count c =
    let word : ℕ → ℕ = λ k. word_at c.args.self.now.memory (c.args.begin + 4 * k) in
    let count = length-map-range_with_len word 0 ((c.args.end - c.args.begin) / 4) in
    (λ no. cc, λ same. absurd (omega (arith, ap length same, c.if-words-count.true, count)))

pub returns-then-words-at : goal.returns-then-words-at
unfolding words_of
returns-then-words-at c =
    let word : ℕ → ℕ = λ k. word_at c.args.self.now.memory (c.args.begin + 4 * k) in
    let count = (c.args.end - c.args.begin) / 4 in
    let here = get_or-map-range_with_len word 0 count c.loop-at.at c.loop-at.at 0 (omega arith) (omega arith) in
    let read : List ℕ → ℕ = λ words. get_or words c.loop-at.at 0 in
    (λ no. cc, λ same. absurd (c.if-words-at.true (ap read same ∙ here ∙ sym c.word.ensures)))

pub loop-at-preserved : goal.loop-at-preserved
loop-at-preserved c =
    let word : ℕ → ℕ = λ k. word_at c.args.self.now.memory (c.args.begin + 4 * k) in
    let more = map-range_with_len_more word 0 c.loop-at.at c.loop-at.at (omega arith) in
    rw (more, ← c.word.ensures, ← c.loop-at.invariant, ← c.if-words-at.false, add-one)
    (take-suc c.args.words.now c.loop-at.at 0 (omega arith))

pub returns : goal.returns
unfolding words_of
returns c =
    let word : ℕ → ℕ = λ k. word_at c.args.self.now.memory (c.args.begin + 4 * k) in
    let whole = take_all c.loop-at.at c.args.words.now (omega arith) in
    (λ yes. sym whole ∙ c.loop-at.invariant ∙ ap (λ n. map word (range_with_len 0 n)) (omega arith), λ same. refl)
