-- The places of marks.
use Rattle.std.proofs.Common.{◌≡◌, ◌∙◌, ℕ, zero, suc, ◌+◌, ◌<◌, Bool, true, false, List, [], ◌∷◌, ◌++◌, get_or}
use Rattle.std.proofs.Common.{ap, arith, cond, append-nil}
use Rattle.std.specs.List.{All, filter, range_with_len}
use Rattle.std.specs.List.Sorted.{IsStrictlyIncreasing}
use Rattle.std.proofs.lemmas.List.Elements.{All-filter, filter-append}
use Rattle.std.proofs.lemmas.List.FromFn.{length-range_with_len, get_or-range_with_len}
use Rattle.std.proofs.lemmas.List.Kept.{IsStrictlyIncreasing-filter}
use Rattle.rv_jobs.specs.Selection.{selected_indices}

range_more : (a n : ℕ) → range_with_len a (n + 1) ≡ range_with_len a n ++ (a + n) ∷ []
range_more a zero = let e : a ≡ a + 0 = omega arith in ap (λ k. k ∷ []) e
range_more a (suc n) =
    let e : a + 1 + n ≡ a + suc n = omega arith in
    let f : suc n + 1 ≡ suc (n + 1) = omega arith in
    ap (range_with_len a) f ∙ ap (λ l. a ∷ l) (range_more (a + 1) n ∙ ap (λ k. range_with_len (a + 1) n ++ k ∷ []) e)

below : (n : ℕ) → All (λ place. place < n) (range_with_len 0 n)
below n k d inside =
    let low : k < n = omega (arith, length-range_with_len 0 n) in
    let is = get_or-range_with_len 0 n k d low in omega arith

rising : (n : ℕ) → IsStrictlyIncreasing (range_with_len 0 n)
rising n k inside =
    let low : k + 1 < n = omega (arith, length-range_with_len 0 n) in
    let one = get_or-range_with_len 0 n k 0 (omega arith) in
    let two = get_or-range_with_len 0 n (k + 1) 0 low in omega arith

module _ (marks : List Bool) where
  pub marked_within : (n : ℕ) → All (λ place. place < n) (selected_indices marks n)
  marked_within n = All-filter (λ p. get_or marks p false) (λ place. place < n) (range_with_len 0 n) (below n)

  pub marked_rising : (n : ℕ) → IsStrictlyIncreasing (selected_indices marks n)
  marked_rising n = IsStrictlyIncreasing-filter (λ p. get_or marks p false) (range_with_len 0 n) (rising n)

  chosen : (n : ℕ) (b : Bool) → get_or marks n false ≡ b → selected_indices marks (n + 1) ≡ selected_indices marks n ++ cond b (n ∷ []) []
  chosen n b is =
      let e : 0 + n ≡ n = omega arith in
      ap (filter (λ p. get_or marks p false)) (range_more 0 n ∙ ap (λ k. range_with_len 0 n ++ k ∷ []) e)
      ∙ (filter-append (λ p. get_or marks p false) (range_with_len 0 n) (n ∷ [])
      ∙ ap (λ c. selected_indices marks n ++ cond c (n ∷ []) []) is)

  pub one_marked : (n : ℕ) → get_or marks n false ≡ true → selected_indices marks (n + 1) ≡ selected_indices marks n ++ n ∷ []
  one_marked n is = chosen n true is

  pub none_marked : (n : ℕ) → get_or marks n false ≡ false → selected_indices marks (n + 1) ≡ selected_indices marks n
  none_marked n is = chosen n false is ∙ append-nil (selected_indices marks n)
