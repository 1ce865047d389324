-- A search through the sections of a file, index after index.
use Rattle.std.proofs.Common.{◌≡◌, ◌∙◌, ◌<◌, ◌≤◌, ◌+◌, ◌-◌, ℕ, suc, Bool, true, false, cond, Some, None, map, ap, sym, arith}
use Rattle.std.specs.List.{find, range_with_len}

module _ {X : Type 0} (p : X → Bool) (f : ℕ → X) where
  -- of the indexes from k up to n, the first that passes is k, or one from k + 1 on
  pub found_from : (k n : ℕ) → k < n
      → find p (map f (range_with_len k (n - k))) ≡ cond (p (f k)) (Some (f k)) (find p (map f (range_with_len (k + 1) (n - (k + 1)))))
  found_from k n l = let e : n - k ≡ suc (n - (k + 1)) = omega arith in ap (λ m. find p (map f (range_with_len k m))) e

  pub found_here : (k n : ℕ) → k < n → p (f k) ≡ true → find p (map f (range_with_len k (n - k))) ≡ Some (f k)
  found_here k n l h = found_from k n l ∙ ap (λ b. cond b (Some (f k)) (find p (map f (range_with_len (k + 1) (n - (k + 1)))))) h

  pub found_later : (k n : ℕ) → k < n → p (f k) ≡ false
      → find p (map f (range_with_len (k + 1) (n - (k + 1)))) ≡ find p (map f (range_with_len k (n - k)))
  found_later k n l h =
      sym (found_from k n l ∙ ap (λ b. cond b (Some (f k)) (find p (map f (range_with_len (k + 1) (n - (k + 1)))))) h)

  pub found_none : (k n : ℕ) → n ≤ k → find p (map f (range_with_len k (n - k))) ≡ None
  found_none k n l = let e : n - k ≡ 0 = omega arith in ap (λ m. find p (map f (range_with_len k m))) e

  pub found_whole : (n : ℕ) → find p (map f (range_with_len 0 (n - 0))) ≡ find p (map f (range_with_len 0 n))
  found_whole n = let e : n - 0 ≡ n = omega arith in ap (λ m. find p (map f (range_with_len 0 m))) e
