-- The position of an element, from the front of a list on, and the text before a zero byte.
use Rattle.std.proofs.Common.{◌≡◌, ◌∙◌, ◌+◌, ◌==◌, ℕ, suc, Bool, true, false, not, cond, ltb, List, [], ◌∷◌, Option, Some, None, refl, ap, arith, length, take, option_map}
use Rattle.std.specs.Prelude.{position}
use Rattle.std.specs.List.{position_or_len}
use Rattle.std.proofs.lemmas.Bool.{lt-ltb}
use Rattle.std.proofs.lemmas.Bool.Decides.{nat_tests}
use Rattle.rv_elf.specs.Sections.{text_before_zero}

later : (n m : ℕ) (d e : Bool) → e ≡ d → cond e (Some (1 + n)) None ≡ option_map suc (cond d (Some n) None)
later n m true e same = ap (λ x. cond x (Some (1 + n)) None) same ∙ ap Some (let one : 1 + n ≡ suc n = omega arith in one)
later n m false e same = ap (λ x. cond x (Some (1 + n)) None) same

less_alike : (n m : ℕ) → ltb (1 + n) (suc m) ≡ ltb n m
less_alike n m = grind (arith, nat_tests)

-- the first element is at 0 if it passes, and else the position is one after that in the rest
pub position_cons : {X : Type 0} (p : X → Bool) (x : X) (xs : List X) → position p (x ∷ xs) ≡ cond (p x) (Some 0) (option_map suc (position p xs))
position_cons p x xs =
    let n = position_or_len p xs in
    elim (p x) as (λ z. cond (ltb (cond (not z) (1 + n) 0) (length (x ∷ xs))) (Some (cond (not z) (1 + n) 0)) None
    ≡ cond z (Some 0) (option_map suc (cond (ltb n (length xs)) (Some n) None))) [
      | true ↦ ap (λ b. cond b (Some 0) None) (lt-ltb 0 (length (x ∷ xs)) (omega arith))
      | false ↦ later n (length xs) (ltb n (length xs)) (ltb (1 + n) (length (x ∷ xs))) (less_alike n (length xs))
    ]

text_later : (b : ℕ) (bytes : List ℕ) (o : Option ℕ) → option_map (λ t. b ∷ t) (option_map (λ n. take n bytes) o) ≡ option_map (λ n. take n (b ∷ bytes)) (option_map suc o)
text_later b bytes None = refl
text_later b bytes (Some n) = refl

-- a text ends at the first zero byte
pub text_by_position : (bytes : List ℕ) → text_before_zero bytes ≡ option_map (λ n. take n bytes) (position (λ b. b == 0) bytes)
text_by_position [] = refl
text_by_position (b ∷ bytes) = rw (position_cons (λ x. x == 0) b bytes)
    (elim (b == 0) as (λ z. cond z (Some []) (option_map (λ t. b ∷ t) (text_before_zero bytes))
    ≡ option_map (λ n. take n (b ∷ bytes)) (cond z (Some 0) (option_map suc (position (λ x. x == 0) bytes)))) [
      | true ↦ refl
      | false ↦ ap (option_map (λ t. b ∷ t)) (text_by_position bytes) ∙ text_later b bytes (position (λ x. x == 0) bytes)
    ])
