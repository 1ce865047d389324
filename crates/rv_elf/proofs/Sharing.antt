-- Segments whose file bytes share no byte of memory.
use Rattle.std.proofs.Common.{◌≡◌, ◌∙◌, ◌≤◌, ◌<◌, ◌+◌, ℕ, zero, suc, min, max, Bool, true, false, cond, leb, List, []}
use Rattle.std.proofs.Common.{◌∷◌, refl, ap, arith, length, get_or, take}
use Rattle.std.specs.List.{list_any, count_by}
use Rattle.std.proofs.lemmas.Bool.{or_parts, and_parts, leb-true, ltb-true, lt-ltb, both_ways, false_from_ne_true}
use Rattle.std.proofs.lemmas.List.Folds.{list_any_at}
use Rattle.std.proofs.lemmas.List.Sums.{sum_by-cons}
use Rattle.rv_elf.specs.declared.image.Segment.{Segment}
use Rattle.rv_elf.specs.declared.loading.LoadAt.{LoadAt}
use Rattle.rv_elf.specs.Loading.{load_address, segments_overlap, any_segments_overlap, segment_fills, initial_byte, segment_byte}

counts_no : (b : Bool) → b ≡ false → cond {A = ℕ} b 1 0 ≡ 0
counts_no b e = ap (λ c. cond c 1 0) e

counts_yes : (b : Bool) → b ≡ true → cond {A = ℕ} b 1 0 ≡ 1
counts_yes b e = ap (λ c. cond c 1 0) e

module _ (at : LoadAt) (a : ℕ) where
  -- two that fill one address share its byte
  not_both : (s t : Segment) → segments_overlap at s t ≡ false → segment_fills at a s ≡ true → segment_fills at a t ≡ true → ⊥
  not_both s t e f g =
      let p = and_parts (leb (load_address at s) a) _ f in
      let q = and_parts (leb (load_address at t) a) _ g in
      let p0 = leb-true (load_address at s) a p.0 in
      let p1 = ltb-true a (load_address at s + s.filesz) p.1 in
      let q0 = leb-true (load_address at t) a q.0 in
      let q1 = ltb-true a (load_address at t + t.filesz) q.1 in
      both_ways _ e
      (lt-ltb (max (load_address at s) (load_address at t))
      (min (load_address at s + s.filesz) (load_address at t + t.filesz)) (omega arith))

  -- so behind a segment that fills an address none does that shares no byte with it
  none_behind : (s : Segment) (ss : List Segment) → list_any (segments_overlap at s) ss ≡ false → segment_fills at a s ≡ true
      → count_by (segment_fills at a) ss ≡ 0
  none_behind s [] e f = refl
  none_behind s (t ∷ ss) e f =
      let p = or_parts (segments_overlap at s t) _ e in
      let nothing = counts_no _ (false_from_ne_true (segment_fills at a t) (λ g. not_both s t p.0 f g)) in
      let counted : count_by (segment_fills at a) (t ∷ ss) ≡ cond (segment_fills at a t) 1 0 + count_by (segment_fills at a) ss =
      sum_by-cons (λ x. cond (segment_fills at a x) 1 0) t ss in
      let rest = none_behind s ss p.1 f in
      omega arith

  -- and no two of a list fill an address
  pub at_most_one : (ss : List Segment) → any_segments_overlap at ss ≡ false → count_by (segment_fills at a) ss ≤ 1
  at_most_one [] e = omega arith
  at_most_one (s ∷ ss) e =
      let p = or_parts (list_any (segments_overlap at s) ss) _ e in
      let c : count_by (segment_fills at a) (s ∷ ss) ≡ cond (segment_fills at a s) 1 0 + count_by (segment_fills at a) ss =
      sum_by-cons (λ x. cond (segment_fills at a x) 1 0) s ss in
      elim (segment_fills at a s) as (λ b. segment_fills at a s ≡ b → count_by (segment_fills at a) (s ∷ ss) ≤ 1) [
        | true ↦ λ f. (let n = none_behind s ss p.0 f in let one = counts_yes _ f in omega arith)
        | false ↦ λ f. (let rest = at_most_one ss p.1 in let nothing = counts_no _ f in omega arith)
      ] refl

  swapped : (b c : Bool) (u v w : ℕ) → (b ≡ true → c ≡ true → ⊥) → cond b u (cond c v w) ≡ cond c v (cond b u w)
  swapped true true u v w never = absurd (never refl refl)
  swapped true false u v w _ = refl
  swapped false true u v w _ = refl
  swapped false false u v w _ = refl

  -- so the byte of one more segment comes into an address that it fills, and no other changes
  pub opening_byte_more : (file : List ℕ) (ss : List Segment) (i : ℕ) (d : Segment) → any_segments_overlap at ss ≡ false
      → i < length ss
      → initial_byte (take (i + 1) ss) file at a ≡ cond (segment_fills at a (get_or ss i d)) (segment_byte file at (get_or ss i d) a)
      (initial_byte (take i ss) file at a)
  opening_byte_more file [] i d e l = absurd (omega arith)
  opening_byte_more file (s ∷ ss) zero d e l = refl
  opening_byte_more file (s ∷ ss) (suc j) d e l =
      let p = or_parts (list_any (segments_overlap at s) ss) _ e in
      let t = get_or ss j d in
      let apart : segments_overlap at s t ≡ false = false_from_ne_true _
      (λ g. both_ways _ p.0 (list_any_at (segments_overlap at s) ss j d (omega arith) g)) in
      let next : suc j + 1 ≡ suc (j + 1) = omega arith in
      ap (λ k. initial_byte (take k (s ∷ ss)) file at a) next
      ∙ ap (λ x. cond (segment_fills at a s) (segment_byte file at s a) x) (opening_byte_more file ss j d p.1 (omega arith))
      ∙ swapped (segment_fills at a s) (segment_fills at a t) _ _ _ (λ f g. not_both s t apart f g)
