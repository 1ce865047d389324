-- Lists that are collected one element after another.
use Rattle.std.proofs.Common.{◌≡◌, ◌∙◌, refl, ℕ, zero, suc, ◌+◌, ◌<◌, ◌≤◌, List, [], ◌∷◌, ◌++◌, add-one, ap, arith, get_or, length, take}
use Rattle.std.proofs.Math.Seq.{take-suc}
use Rattle.std.proofs.lemmas.List.{flat_map_more, take_all}
use Rattle.std.specs.List.{flat_map, zip}

module _ {X A : Type 0} (f : X → List A) (xs : List X) (i : ℕ) where
  -- the elements of one more
  pub one_more : (d : X) (mid new : List A) → i < length xs → mid ≡ flat_map f (take i xs) → new ≡ mid ++ f (get_or xs i d)
      → new ≡ flat_map f (take (i + 1) xs)
  one_more d mid new below so_far more =
      rw (add-one, take-suc xs i d below)
      (more ∙ (ap (λ ys. ys ++ f (get_or xs i d)) so_far ∙ flat_map_more f [] (take i xs) (get_or xs i d)))

  -- the elements of all
  pub all_of : (new : List A) → length xs ≤ i → new ≡ flat_map f (take i xs) → new ≡ flat_map f xs
  all_of new past so_far = so_far ∙ ap (flat_map f) (take_all i xs past)

module _ {X Y : Type 0} where
  -- a pair of two lists
  pub pair_at : (xs : List X) (ys : List Y) (i : ℕ) (x : X) (y : Y) → i < length xs → i < length ys
      → get_or (zip xs ys) i (x, y) ≡ (get_or xs i x, get_or ys i y)
  pair_at [] ys i x y low below = absurd (omega arith)
  pair_at (a ∷ xs) [] i x y low below = absurd (omega arith)
  pair_at (a ∷ xs) (b ∷ ys) zero x y low below = refl
  pair_at (a ∷ xs) (b ∷ ys) (suc i) x y low below = pair_at xs ys i x y (omega arith) (omega arith)

  -- as many pairs as elements of the shorter list
  pub pairs : (xs : List X) (ys : List Y) → length ys ≤ length xs → length (zip xs ys) ≡ length ys
  pairs [] [] few = refl
  pairs [] (b ∷ ys) few = absurd (omega arith)
  pairs (a ∷ xs) [] few = refl
  pairs (a ∷ xs) (b ∷ ys) few = ap suc (pairs xs ys (omega arith))
