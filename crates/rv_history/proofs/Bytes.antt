-- The bytes of a watch, one address more.
use Rattle.std.proofs.Common.{◌≡◌, ◌++◌, ◌∷◌, ◌+◌, ◌-◌, ◌<◌, ◌≤◌, ◌∙◌, [], ℕ, zero, suc, List, Option, Some, None, ap, append-nil, append_assoc, sym, refl, arith, add-one, add-zero, zero-add, drop, drop-cons, get_or, length, length-drop}
use Rattle.std.specs.Prelude.{◌≢◌}
use Rattle.std.proofs.lemmas.List.{append_cancel_left}
use Rattle.std.proofs.lemmas.List.Elements.{filter_map-append}
use Rattle.std.specs.List.{filter_map, range_with_len}

range_more : (a n : ℕ) → range_with_len a (n + 1) ≡ range_with_len a n ++ (a + n) ∷ []
range_more a zero = ap (λ (k : ℕ). k ∷ []) (sym (add-zero a))
range_more a (suc n) =
    let later : a + 1 + n ≡ a + suc n = omega arith in
    let sum : suc n + 1 ≡ suc (n + 1) = omega arith in
    ap (range_with_len a) sum ∙ ap (λ (rest : List ℕ). a ∷ rest) (range_more (a + 1) n)
    ∙ ap (λ (k : ℕ). a ∷ (range_with_len (a + 1) n ++ k ∷ [])) later

found_more : (byte_of : ℕ → Option ℕ) (a n : ℕ) → filter_map byte_of (range_with_len a (n + 1))
    ≡ filter_map byte_of (range_with_len a n) ++ filter_map byte_of ((a + n) ∷ [])
found_more byte_of a n =
    ap (filter_map byte_of) (range_more a n) ∙ filter_map-append byte_of (range_with_len a n) ((a + n) ∷ [])

one_some : (byte_of : ℕ → Option ℕ) (address byte : ℕ) → Some byte ≡ byte_of address
    → filter_map byte_of (address ∷ []) ≡ byte ∷ []
one_some byte_of address byte is = rw (← is) refl

one_none : (byte_of : ℕ → Option ℕ) (address : ℕ) → None ≡ byte_of address → filter_map byte_of (address ∷ []) ≡ []
one_none byte_of address is = rw (← is) refl

pub bytes_more_some : (byte_of : ℕ → Option ℕ) (a n byte : ℕ) (before bytes : List ℕ) → Some byte ≡ byte_of (a + n)
    → bytes ≡ before ++ filter_map byte_of (range_with_len a n)
    → bytes ++ byte ∷ [] ≡ before ++ filter_map byte_of (range_with_len a (n + 1))
bytes_more_some byte_of a n byte before bytes is so_far =
    ap (λ (front : List ℕ). front ++ byte ∷ []) so_far
    ∙ append_assoc before (filter_map byte_of (range_with_len a n)) (byte ∷ [])
    ∙ ap (λ (rest : List ℕ). before ++ (filter_map byte_of (range_with_len a n) ++ rest)) (sym (one_some byte_of (a + n) byte is))
    ∙ ap (λ (rest : List ℕ). before ++ rest) (sym (found_more byte_of a n))

pub bytes_more_none : (byte_of : ℕ → Option ℕ) (a n : ℕ) (before bytes : List ℕ) → None ≡ byte_of (a + n)
    → bytes ≡ before ++ filter_map byte_of (range_with_len a n)
    → bytes ≡ before ++ filter_map byte_of (range_with_len a (n + 1))
bytes_more_none byte_of a n before bytes is so_far =
    so_far ∙ ap (λ (rest : List ℕ). before ++ rest) (sym (append-nil (filter_map byte_of (range_with_len a n)))
    ∙ ap (λ (rest : List ℕ). filter_map byte_of (range_with_len a n) ++ rest) (sym (one_none byte_of (a + n) is))
    ∙ sym (found_more byte_of a n))

-- ---- bytes that stand in others

pub seen_some : (byte_of : ℕ → Option ℕ) (a n byte : ℕ) (whole rest behind : List ℕ) → Some byte ≡ byte_of (a + n)
    → rest ≡ byte ∷ behind → whole ≡ filter_map byte_of (range_with_len a n) ++ rest
    → whole ≡ filter_map byte_of (range_with_len a (n + 1)) ++ behind
seen_some byte_of a n byte whole rest behind is first so_far =
    let before = filter_map byte_of (range_with_len a n) in
    so_far ∙ ap (λ (bytes : List ℕ). before ++ bytes) first ∙ sym (append_assoc before (byte ∷ []) behind)
    ∙ ap (λ (bytes : List ℕ). bytes ++ behind) (bytes_more_some byte_of a n byte [] before is refl)

pub seen_none : (byte_of : ℕ → Option ℕ) (a n : ℕ) (whole rest : List ℕ) → None ≡ byte_of (a + n)
    → whole ≡ filter_map byte_of (range_with_len a n) ++ rest → whole ≡ filter_map byte_of (range_with_len a (n + 1)) ++ rest
seen_none byte_of a n whole rest is so_far =
    so_far ∙ ap (λ (bytes : List ℕ). bytes ++ rest) (bytes_more_none byte_of a n [] (filter_map byte_of (range_with_len a n)) is refl)

range_parts : (a n m : ℕ) → range_with_len a (n + m) ≡ range_with_len a n ++ range_with_len (a + n) m
range_parts a zero m = ap (range_with_len a) (zero-add m) ∙ ap (λ k. range_with_len k m) (sym (add-zero a))
range_parts a (suc n) m =
    let sum : suc n + m ≡ suc (n + m) = omega arith in
    let later : a + 1 + n ≡ a + suc n = omega arith in
    ap (range_with_len a) sum ∙ ap (λ (rest : List ℕ). a ∷ rest) (range_parts (a + 1) n m)
    ∙ ap (λ k. a ∷ (range_with_len (a + 1) n ++ range_with_len k m)) later

-- all of them begin with those up to one, if there are more
bytes_parts : (byte_of : ℕ → Option ℕ) (a n byte count : ℕ) → n < count → Some byte ≡ byte_of (a + n)
    → (more : List ℕ) × (filter_map byte_of (range_with_len a count) ≡ filter_map byte_of (range_with_len a n) ++ byte ∷ more)
bytes_parts byte_of a n byte count within is =
    let left = count - (n + 1) in
    let sum : n + 1 + left ≡ count = omega arith in
    let more = filter_map byte_of (range_with_len (a + (n + 1)) left) in
    let before = filter_map byte_of (range_with_len a n) in (
      more,
      ap (λ k. filter_map byte_of (range_with_len a k)) (sym sum) ∙ ap (filter_map byte_of) (range_parts a (n + 1) left)
          ∙ filter_map-append byte_of (range_with_len a (n + 1)) (range_with_len (a + (n + 1)) left)
          ∙ ap (λ (bytes : List ℕ). bytes ++ more) (sym (bytes_more_some byte_of a n byte [] before is refl))
          ∙ append_assoc before (byte ∷ []) more,
    )

-- a byte that is not there
pub unlike : (byte_of : ℕ → Option ℕ) (a n byte count : ℕ) (whole rest : List ℕ) → n < count → Some byte ≡ byte_of (a + n)
    → whole ≡ filter_map byte_of (range_with_len a n) ++ rest → ((behind : List ℕ) → rest ≡ byte ∷ behind → ⊥)
    → (behind : List ℕ) → whole ≡ filter_map byte_of (range_with_len a count) ++ behind → ⊥
unlike byte_of a n byte count whole rest within is so_far other behind same =
    let parts = bytes_parts byte_of a n byte count within is in
    let before = filter_map byte_of (range_with_len a n) in
    other (parts.0 ++ behind) (append_cancel_left before rest (byte ∷ (parts.0 ++ behind))
    (sym so_far ∙ same ∙ ap (λ (bytes : List ℕ). bytes ++ behind) parts.1 ∙ append_assoc before (byte ∷ parts.0) behind))

-- no byte is left where there is none
pub none_left : (whole : List ℕ) (from byte : ℕ) → length whole ≤ from → (behind : List ℕ) → drop from whole ≡ byte ∷ behind → ⊥
none_left whole from byte end behind same =
    let left = length-drop from whole in let count = ap length same in omega (arith, left, count)

-- another one is
pub other_left : (whole : List ℕ) (from byte : ℕ) → from < length whole → get_or whole from 0 ≢ byte → (behind : List ℕ)
    → drop from whole ≡ byte ∷ behind → ⊥
other_left whole from byte within other behind same =
    other (ap (λ (bytes : List ℕ). get_or bytes 0 0) (sym (drop-cons whole from 0 within) ∙ same))

-- the same one is
pub same_left : (whole : List ℕ) (from byte : ℕ) → from < length whole → get_or whole from 0 ≡ byte
    → drop from whole ≡ byte ∷ drop (from + 1) whole
same_left whole from byte within is =
    drop-cons whole from 0 within ∙ ap (λ k. k ∷ drop (suc from) whole) is ∙ ap (λ k. byte ∷ drop k whole) (sym (add-one from))
