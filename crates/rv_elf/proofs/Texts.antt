-- Where a text ends, and from which places of a string table on there is one.
use Rattle.std.proofs.Common.{◌≡◌, ◌∙◌, ◌<◌, ◌≤◌, ◌+◌, ◌-◌, ◌==◌, ℕ, zero, suc}
use Rattle.std.proofs.Common.{Bool, true, false, not, cond, ltb}
use Rattle.std.proofs.Common.{List, [], ◌∷◌, Option, Some, None, refl, sym, ap, arith, length, get_or, take, drop}
use Rattle.std.proofs.Common.{option_map}
use Rattle.std.proofs.Common.{inl, inr, length-drop}
use Rattle.std.specs.Prelude.{is_some, position}
use Rattle.std.specs.List.{position_or_len}
use Rattle.std.proofs.lemmas.Bool.{cases_lt, lt-ltb, le-ltb, eq-eqb}
use Rattle.std.proofs.lemmas.Bool.Decides.{nat_tests}
use Rattle.std.proofs.lemmas.List.{get_or-drop}
use Rattle.rv_elf.specs.Sections.{text_before_zero}
use Rattle.rv_elf.specs.SymbolSearch.{IsNamesEnd}

-- ---- the text that bytes begin with

one_later : (b : ℕ) (bs : List ℕ) (n k : ℕ) → k ≡ suc n → (d e : Bool) → e ≡ d
    → option_map (λ t. b ∷ t) (option_map (λ j. take j bs) (cond d (Some n) None))
    ≡ option_map (λ j. take j (b ∷ bs)) (cond e (Some k) None)
one_later b bs n k next true e same =
    sym (ap (λ x. option_map (λ j. take j (b ∷ bs)) (cond x (Some k) None)) same
    ∙ ap (λ j. Some (take j (b ∷ bs))) next)
one_later b bs n k next false e same =
    sym (ap (λ x. option_map (λ j. take j (b ∷ bs)) (cond x (Some k) None)) same)

less_alike : (n m k l : ℕ) → k ≡ suc n → l ≡ suc m → ltb k l ≡ ltb n m
less_alike n m k l e f = grind (arith, nat_tests)

-- it ends at the first zero byte
pub text_before_zero-take : (bs : List ℕ) → text_before_zero bs ≡ option_map (λ n. take n bs) (position (λ b. b == 0) bs)
text_before_zero-take [] = refl
text_before_zero-take (b ∷ bs) =
    let n = position_or_len (λ x. x == 0) bs in
    let next : 1 + n ≡ suc n = omega arith in
    elim (b == 0) as (λ z. cond z (Some []) (option_map (λ t. b ∷ t) (text_before_zero bs))
    ≡ option_map (λ j. take j (b ∷ bs))
    (cond (ltb (cond (not z) (1 + n) 0) (length (b ∷ bs))) (Some (cond (not z) (1 + n) 0)) None)) [
      | true ↦ sym (ap (λ x. option_map (λ j. take j (b ∷ bs)) (cond x (Some 0) None))
          (lt-ltb 0 (length (b ∷ bs)) (omega arith)))
      | false ↦ ap (option_map (λ t. b ∷ t)) (text_before_zero-take bs)
          ∙ one_later b bs n (1 + n) next (ltb n (length bs)) (ltb (1 + n) (length (b ∷ bs)))
          (less_alike n (length bs) (1 + n) (length (b ∷ bs)) next refl)
    ]

-- ---- the places of a string table

rest_none : (b : ℕ) (zero : Bool) (o : Option (List ℕ))
    → cond zero (Some []) (option_map (λ t. b ∷ t) o) ≡ None → o ≡ None
rest_none b true o e = cc
rest_none b false None e = refl
rest_none b false (Some t) e = cc

rest_some : (b : ℕ) (zero : Bool) (o : Option (List ℕ)) → is_some o ≡ true
    → is_some (cond zero (Some []) (option_map (λ t. b ∷ t) o)) ≡ true
rest_some b true o e = refl
rest_some b false None e = e
rest_some b false (Some t) e = refl

-- where there is no text from a place on, there is none from a later one on
none_later : (bs : List ℕ) (i j : ℕ) → i ≤ j → text_before_zero (drop i bs) ≡ None → text_before_zero (drop j bs) ≡ None
none_later [] i zero l e = refl
none_later [] i (suc j) l e = refl
none_later (b ∷ bs) zero zero l e = e
none_later (b ∷ bs) zero (suc j) l e = none_later bs zero j (omega arith) (rest_none b (b == 0) (text_before_zero bs) e)
none_later (b ∷ bs) (suc i) zero l e = absurd (omega arith)
none_later (b ∷ bs) (suc i) (suc j) l e = none_later bs i j (omega arith) e

-- a zero byte ends some text
some_before : (bs : List ℕ) (i : ℕ) → i < length bs → get_or bs i 0 ≡ 0 → is_some (text_before_zero bs) ≡ true
some_before [] i l e = absurd (omega arith)
some_before (b ∷ bs) zero l e =
    ap (λ z. is_some (cond z (Some []) (option_map (λ t. b ∷ t) (text_before_zero bs)))) (eq-eqb b 0 e)
some_before (b ∷ bs) (suc i) l e = rest_some b (b == 0) (text_before_zero bs) (some_before bs i (omega arith) e)

-- so texts end with the last zero byte
pub is_names_end : (bs : List ℕ) (end : ℕ) → end ≤ length bs → text_before_zero (drop end bs) ≡ None
    → (0 < end → get_or bs (end - 1) 0 ≡ 0) → IsNamesEnd bs end
is_names_end bs end within none last = record {
  within = within;
  names = λ k. elim (cases_lt k end) [
    | inl before ↦ let place : k + (end - 1 - k) ≡ end - 1 = omega arith in
        some_before (drop k bs) (end - 1 - k) (omega (arith, length-drop k bs))
        (get_or-drop k bs (end - 1 - k) 0 ∙ ap (λ n. get_or bs n 0) place ∙ last (omega arith))
        ∙ sym (lt-ltb k end before)
    | inr behind ↦ ap is_some (none_later bs end k behind none) ∙ sym (le-ltb k end behind)
  ];
}
