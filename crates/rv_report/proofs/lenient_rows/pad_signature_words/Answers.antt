use Rattle.std.proofs.Common.{◌≡◌, ◌∙◌, ◌+◌, ◌-◌, ◌<◌, ◌≤◌, ◌∷◌, ◌++◌, ℕ, List, [], ap, append_assoc, arith, sym, vec_len}
use Rattle.std.proofs.lemmas.List.{replicate-append-replicate}
use Rattle.std.specs.Prelude.{replicate}
use Rattle.rv_report.proofs.lenient_rows.pad_signature_words.Goals as goal

one_zero_more : (old mid new : List ℕ) (n m : ℕ) → m ≡ n + 1 → mid ≡ old ++ replicate n 0 → new ≡ mid ++ 0 ∷ []
    → new ≡ old ++ replicate m 0
one_zero_more old mid new n m one so_far pushed =
    pushed ∙ ap (λ words. words ++ 0 ∷ []) so_far ∙ append_assoc old (replicate n 0) (0 ∷ [])
    ∙ ap (λ zeros. old ++ zeros) (replicate-append-replicate n 1 0) ∙ ap (λ k. old ++ replicate k 0) (sym one)

one_behind : (old mid new : ℕ) → old ≤ mid → new ≡ mid + 1 → new - old ≡ (mid - old) + 1
one_behind old mid new grown one = omega arith

grown_more : (old mid new : ℕ) → old ≤ mid → new ≡ mid + 1 → old ≤ new
grown_more old mid new grown one = omega arith

still_within : (old mid new count : ℕ) → mid < count → new ≡ mid + 1 → new - old ≤ count - old
still_within old mid new count below one = omega arith

pub loop-words-preserved : goal.loop-words-preserved
loop-words-preserved c =
    let old = vec_len c.args.words.now in
    let mid = vec_len c.loop-words.words in
    let new = vec_len c.push.new.self in
    let one = c.in_ok-push.ensures.len in
    let grown = c.loop-words.invariant.grown in
    record {
      items = one_zero_more c.args.words.now.items c.loop-words.words.items c.push.new.self.items (mid - old) (new - old)
          (one_behind old mid new grown one) c.loop-words.invariant.items c.in_ok-push.ensures.items;
      grown = grown_more old mid new grown one;
      most = still_within old mid new c.args.count (rw c.len.ensures at c.loop-words-test.true) one;
    }
