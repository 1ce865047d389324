-- Elements of lists.
use Rattle.std.proofs.Common.{◌≡◌, ◌++◌, ◌∷◌, [], Bool, true, false, List, Some, None, All, ◌||◌, cond, refl}
use Rattle.std.specs.List.{find, list_any}
use Rattle.std.proofs.lemmas.List.Elements.{All-cons, All-head, All-nil, All-tail}

module _ {X : Type 0} (P : X → Type 0) where
  pub all_left : (xs ys : List X) → All P (xs ++ ys) → All P xs
  all_left [] ys each = All-nil P
  all_left (x ∷ xs) ys each =
      All-cons P x xs (All-head P x (xs ++ ys) each) (all_left xs ys (All-tail P x (xs ++ ys) each))

  pub all_right : (xs ys : List X) → All P (xs ++ ys) → All P ys
  all_right [] ys each = each
  all_right (x ∷ xs) ys each = all_right xs ys (All-tail P x (xs ++ ys) each)

module _ {X : Type 0} (test : X → Bool) where
  pub any_left : (xs ys : List X) → list_any test xs ≡ true → list_any test (xs ++ ys) ≡ true
  any_left [] ys some = cc
  any_left (x ∷ xs) ys some = go (test x) (any_left xs ys) some
    where
      go : (passes : Bool) → (list_any test xs ≡ true → list_any test (xs ++ ys) ≡ true)
          → (passes || list_any test xs) ≡ true → (passes || list_any test (xs ++ ys)) ≡ true
      go true behind some = refl
      go false behind some = behind some

  pub any_last : (xs : List X) (x : X) → test x ≡ true → list_any test (xs ++ x ∷ []) ≡ true
  any_last [] x passes = rw passes refl
  any_last (y ∷ xs) x passes = go (test y) (any_last xs x passes)
    where
      go : (first : Bool) → list_any test (xs ++ x ∷ []) ≡ true → (first || list_any test (xs ++ x ∷ [])) ≡ true
      go true behind = refl
      go false behind = behind

  pub none_passes : (xs : List X) → list_any test xs ≡ false → All (λ x. test x ≡ false) xs
  none_passes [] none = All-nil (λ x. test x ≡ false)
  none_passes (x ∷ xs) none = go (test x) refl (none_passes xs) none
    where
      go : (passes : Bool) → test x ≡ passes → (list_any test xs ≡ false → All (λ x. test x ≡ false) xs)
          → (passes || list_any test xs) ≡ false → All (λ x. test x ≡ false) (x ∷ xs)
      go true is behind none = cc
      go false is behind none = All-cons (λ x. test x ≡ false) x xs is (behind none)

  pub none_found : (xs : List X) → find test xs ≡ None → All (λ x. test x ≡ false) xs
  none_found [] none = All-nil (λ x. test x ≡ false)
  none_found (x ∷ xs) none = go (test x) refl (none_found xs) none
    where
      go : (passes : Bool) → test x ≡ passes → (find test xs ≡ None → All (λ x. test x ≡ false) xs)
          → cond passes (Some x) (find test xs) ≡ None → All (λ x. test x ≡ false) (x ∷ xs)
      go true is behind none = cc
      go false is behind none = All-cons (λ x. test x ≡ false) x xs is (behind none)
