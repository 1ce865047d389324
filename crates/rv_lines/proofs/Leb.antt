-- A number of variable length ends at its first byte below 128, and its value is that of the digits up to there.
use Rattle.std.proofs.Common.{◌≡◌, ◌∙◌, ◌<◌, ◌≤◌, ◌+◌, ◌-◌, ◌*◌, ◌%◌, ℕ, ℤ, pos, negsuc, ◌+ℤ◌, ◌*ℤ◌, suc, Bool, true, false, cond, List, [], ◌∷◌, Option, Some, None, refl, sym, ap, arith, take, drop, get_or, option_map, nat_lt, nat_le, min, ◌^◌, Ok, Err}
use Rattle.std.specs.Prelude.{position}
use Rattle.std.proofs.lemmas.Bool.{lt-ltb, le-ltb, ltb-true}
use Rattle.std.proofs.lemmas.Bool.Decides.{nat_tests}
use Rattle.std.proofs.lemmas.Int.{ints}
use Rattle.rv_lines.specs.declared.error.UnitError.{UnitError}
use Rattle.rv_lines.specs.declared.error.UnitError.TheVariants.{Number}
use Rattle.rv_lines.specs.Numbers.{unsigned_leb, signed_leb, digits_value, number_or, modulo_or}
use Rattle.rv_lines.proofs.Positions.{position_cons}

abbrev pub ends : ℕ → Bool
ends b = nat_lt b 128

-- the digits of a number whose last byte is at an index, and the bytes after it
abbrev pub unsigned_to : List ℕ → ℕ → ℕ × List ℕ
unsigned_to bytes i = (digits_value false (take (suc i) bytes), drop (suc i) bytes)

more : (b : ℕ) (bytes : List ℕ) (o : Option ℕ) → option_map (λ n. (b % 128 + 128 * n.0, n.1)) (option_map (unsigned_to bytes) o) ≡ option_map (unsigned_to (b ∷ bytes)) (option_map suc o)
more b bytes None = refl
more b bytes (Some i) = refl

last : (b : ℕ) → b < 128 → b ≡ b % 128 + 128 * 0
last b lt = omega arith

pub unsigned_by_position : (bytes : List ℕ) → unsigned_leb bytes ≡ option_map (unsigned_to bytes) (position ends bytes)
unfolding unsigned_leb
unsigned_by_position [] = refl
unsigned_by_position (b ∷ bytes) = rw (position_cons ends b bytes)
    (elim (nat_lt b 128) as (λ z. nat_lt b 128 ≡ z → cond {A = Option (ℕ × List ℕ)} z (Some (b, bytes)) (option_map (λ n. (b % 128 + 128 * n.0, n.1)) (unsigned_leb bytes))
    ≡ option_map (unsigned_to (b ∷ bytes)) (cond z (Some 0) (option_map suc (position ends bytes)))) [
      | true ↦ λ e. ap (λ n. Some (n, bytes)) (last b (ltb-true b 128 e))
      | false ↦ λ e. ap (option_map (λ n. (b % 128 + 128 * n.0, n.1))) (unsigned_by_position bytes) ∙ more b bytes (position ends bytes)
    ] refl)

-- ---- signed numbers

-- the value of digits, the last of which says whether they are negative
abbrev pub signed_value : Bool → List ℕ → ℤ
signed_value false bytes = pos (digits_value false bytes)
signed_value true bytes = negsuc (digits_value true bytes)

abbrev pub is_negative : List ℕ → ℕ → Bool
is_negative bytes i = nat_le 64 (get_or bytes i 0)

abbrev pub signed_to : List ℕ → ℕ → ℤ × List ℕ
signed_to bytes i = (signed_value (is_negative bytes i) (take (suc i) bytes), drop (suc i) bytes)

negative_more : (x m : ℕ) → x < 128 → pos x +ℤ (pos 128 *ℤ negsuc m) ≡ negsuc (127 - x + 128 * m)
negative_more x m lt = omega (arith, ints)

digit : (b : ℕ) → b % 128 < 128
digit b = omega arith

signed_more : (b : ℕ) (s : Bool) (bytes : List ℕ) → pos (b % 128) +ℤ (pos 128 *ℤ signed_value s bytes) ≡ signed_value s (b ∷ bytes)
signed_more b false bytes = refl
signed_more b true bytes = negative_more (b % 128) (digits_value true bytes) (digit b)

more_signed : (b : ℕ) (bytes : List ℕ) (o : Option ℕ) → option_map (λ n. (pos (b % 128) +ℤ (pos 128 *ℤ n.0), n.1)) (option_map (signed_to bytes) o) ≡ option_map (signed_to (b ∷ bytes)) (option_map suc o)
more_signed b bytes None = refl
more_signed b bytes (Some i) = ap (λ n. Some (n, drop (suc i) bytes)) (signed_more b (is_negative bytes i) (take (suc i) bytes))

last_signed : (b : ℕ) (bytes : List ℕ) → nat_lt b 128 ≡ true → (d e : Bool) → nat_lt b 64 ≡ d → nat_le 64 b ≡ e
    → cond {A = Option (ℤ × List ℕ)} d (Some (pos b, bytes)) (Some (negsuc (127 - b), bytes)) ≡ Some (signed_value e (b ∷ []), bytes)
last_signed b bytes lt true true d e = absurd (grind (arith, nat_tests))
last_signed b bytes lt true false d e = ap (λ n. Some (pos n, bytes)) (last b (ltb-true b 128 lt))
last_signed b bytes lt false true d e = ap (λ n. Some (negsuc n, bytes)) (let h = ltb-true b 128 lt in let k : 127 - b ≡ 127 - b % 128 + 128 * 0 = omega arith in k)
last_signed b bytes lt false false d e = absurd (grind (arith, nat_tests))

small : (b : ℕ) → nat_lt b 128 ≡ false → nat_lt b 64 ≡ false
small b e = grind (arith, nat_tests)

pub signed_by_position : (bytes : List ℕ) → signed_leb bytes ≡ option_map (signed_to bytes) (position ends bytes)
unfolding signed_leb
signed_by_position [] = refl
signed_by_position (b ∷ bytes) = rw (position_cons ends b bytes)
    (elim (nat_lt b 128) as (λ z. nat_lt b 128 ≡ z → cond {A = Option (ℤ × List ℕ)} (nat_lt b 64) (Some (pos b, bytes)) (cond {A = Option (ℤ × List ℕ)} z (Some (negsuc (127 - b), bytes)) (option_map (λ n. (pos (b % 128) +ℤ (pos 128 *ℤ n.0), n.1)) (signed_leb bytes)))
    ≡ option_map (signed_to (b ∷ bytes)) (cond z (Some 0) (option_map suc (position ends bytes)))) [
      | true ↦ λ e. last_signed b bytes e (nat_lt b 64) (nat_le 64 b) refl refl
      | false ↦ λ e. ap (λ c. cond {A = Option (ℤ × List ℕ)} c (Some (pos b, bytes)) (option_map (λ n. (pos (b % 128) +ℤ (pos 128 *ℤ n.0), n.1)) (signed_leb bytes))) (small b e)
          ∙ ap (option_map (λ n. (pos (b % 128) +ℤ (pos 128 *ℤ n.0), n.1))) (signed_by_position bytes) ∙ more_signed b bytes (position ends bytes)
    ] refl)

-- ---- as the code finds them

one_more : (i : ℕ) → suc i ≡ i + 1
one_more i = omega arith

pub unsigned_none : (bytes : List ℕ) (o : Option ℕ) → o ≡ position ends bytes → o ≡ None → unsigned_leb bytes ≡ None
unsigned_none bytes o e n = unsigned_by_position bytes ∙ ap (option_map (unsigned_to bytes)) (sym e ∙ n)

pub unsigned_some : (bytes : List ℕ) (o : Option ℕ) (i : ℕ) → o ≡ position ends bytes → o ≡ Some i
    → unsigned_leb bytes ≡ Some (digits_value false (take (i + 1) bytes), drop (i + 1) bytes)
unsigned_some bytes o i e s = unsigned_by_position bytes ∙ ap (option_map (unsigned_to bytes)) (sym e ∙ s)
    ∙ ap (λ n. Some (digits_value false (take n bytes), drop n bytes)) (one_more i)

pub signed_none : (bytes : List ℕ) (o : Option ℕ) → o ≡ position ends bytes → o ≡ None → signed_leb bytes ≡ None
signed_none bytes o e n = signed_by_position bytes ∙ ap (option_map (signed_to bytes)) (sym e ∙ n)

pub signed_some : (bytes : List ℕ) (o : Option ℕ) (i : ℕ) → o ≡ position ends bytes → o ≡ Some i
    → signed_leb bytes ≡ Some (signed_value (is_negative bytes i) (take (i + 1) bytes), drop (i + 1) bytes)
signed_some bytes o i e s = signed_by_position bytes ∙ ap (option_map (signed_to bytes)) (sym e ∙ s)
    ∙ ap (λ n. Some (signed_value (is_negative bytes i) (take n bytes), drop n bytes)) (one_more i)

pub number_small : (cut : UnitError) (v value : ℕ) (rest : List ℕ) → value ≡ min (2 ^ 32) v → value < 2 ^ 32 → number_or cut (Some (v, rest)) ≡ Ok (value, rest)
number_small cut v value rest e lt =
    let same : v ≡ value = omega arith in
    let small : v < 2 ^ 32 = omega arith in
    ap (λ b. cond b (Ok (v, rest)) (Err Number)) (lt-ltb v (2 ^ 32) small) ∙ ap (λ n. Ok (n, rest)) same

pub number_large : (cut : UnitError) (v value : ℕ) (rest : List ℕ) → value ≡ min (2 ^ 32) v → 2 ^ 32 ≤ value → number_or cut (Some (v, rest)) ≡ Err Number
number_large cut v value rest e le =
    let large : 2 ^ 32 ≤ v = omega arith in
    ap (λ b. cond b (Ok (v, rest)) (Err Number)) (le-ltb v (2 ^ 32) large)

pub signed_small : (s : Bool) (group : List ℕ) (value : ℕ) (rest : List ℕ) → value ≡ min (2 ^ 32) (digits_value s group) → value < 2 ^ 31
    → modulo_or (signed_value s group) rest ≡ Ok (cond s (2 ^ 32 - 1 - value) value, rest)
signed_small false group value rest e lt =
    let v = digits_value false group in
    let same : v ≡ value = omega arith in
    let small : v < 2 ^ 31 = omega arith in
    ap (λ b. cond b (Ok (v, rest)) (Err Number)) (lt-ltb v (2 ^ 31) small) ∙ ap (λ n. Ok (n, rest)) same
signed_small true group value rest e lt =
    let v = digits_value true group in
    let same : v ≡ value = omega arith in
    let small : v < 2 ^ 31 = omega arith in
    ap (λ b. cond b (Ok (2 ^ 32 - 1 - v, rest)) (Err Number)) (lt-ltb v (2 ^ 31) small) ∙ ap (λ n. Ok (2 ^ 32 - 1 - n, rest)) same

pub signed_large : (s : Bool) (group : List ℕ) (value : ℕ) (rest : List ℕ) → value ≡ min (2 ^ 32) (digits_value s group) → 2 ^ 31 ≤ value
    → modulo_or (signed_value s group) rest ≡ Err Number
signed_large false group value rest e le =
    let v = digits_value false group in
    let large : 2 ^ 31 ≤ v = omega arith in
    ap (λ b. cond b (Ok (v, rest)) (Err Number)) (le-ltb v (2 ^ 31) large)
signed_large true group value rest e le =
    let v = digits_value true group in
    let large : 2 ^ 31 ≤ v = omega arith in
    ap (λ b. cond b (Ok (2 ^ 32 - 1 - v, rest)) (Err Number)) (le-ltb v (2 ^ 31) large)
