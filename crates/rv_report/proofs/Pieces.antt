-- Texts that lack a byte, and where a text is cut at it.
use Rattle.std.proofs.Common.{◌≡◌, ◌∙◌, ◌==◌, ◌+◌, ◌<◌, ℕ, suc, Bool, true, false, ◌&&◌, not, cond, List, [], ◌∷◌, ◌++◌}
use Rattle.std.proofs.Common.{length, drop, get_or, refl, sym, ap, arith, add-one}
use Rattle.std.proofs.lemmas.Bool.{and_parts, and_from, not-true}
use Rattle.std.proofs.lemmas.List.{take_at}
use Rattle.std.specs.List.{onto_first}
use Rattle.rv_report.specs.LenientReport.{lines, index_of_byte, text_before_byte, text_after_byte}

-- whether a byte isn't in a text
abbrev pub lacks : ℕ → List ℕ → Bool
lacks byte [] = true
lacks byte (b ∷ bs) = not (b == byte) && lacks byte bs

pub lacks-append : (byte : ℕ) (xs ys : List ℕ) → lacks byte xs ≡ true → lacks byte ys ≡ true
    → lacks byte (xs ++ ys) ≡ true
lacks-append byte [] ys h k = k
lacks-append byte (b ∷ bs) ys h k =
    let parts = and_parts (not (b == byte)) (lacks byte bs) h in
    and_from (not (b == byte)) (lacks byte (bs ++ ys)) parts.0 (lacks-append byte bs ys parts.1 k)

same_byte : (b : ℕ) → (b == b) ≡ true
same_byte b = grind arith

-- the line before the first line feed is the first line
pub lines_at : (xs rest : List ℕ) → lacks 10 xs ≡ true → lines (xs ++ 10 ∷ rest) ≡ xs ∷ lines rest
unfolding lines
lines_at [] rest h = refl
lines_at (b ∷ bs) rest h =
    let parts = and_parts (not (b == 10)) (lacks 10 bs) h in
    let other : (b == 10) ≡ false = not-true (b == 10) parts.0 in
    ap (λ (t : Bool). cond t ([] ∷ lines (bs ++ 10 ∷ rest)) (onto_first b (lines (bs ++ 10 ∷ rest)))) other
    ∙ ap (onto_first b) (lines_at bs rest parts.1)

pub place_of_at : (byte : ℕ) (xs rest : List ℕ) → lacks byte xs ≡ true → index_of_byte byte (xs ++ byte ∷ rest) ≡ length xs
unfolding index_of_byte
place_of_at byte [] rest h = ap (λ (t : Bool). cond t 0 (index_of_byte byte rest + 1)) (same_byte byte)
place_of_at byte (b ∷ bs) rest h =
    let parts = and_parts (not (b == byte)) (lacks byte bs) h in
    let other : (b == byte) ≡ false = not-true (b == byte) parts.0 in
    ap (λ (t : Bool). cond t 0 (index_of_byte byte (bs ++ byte ∷ rest) + 1)) other
    ∙ ap (λ (n : ℕ). n + 1) (place_of_at byte bs rest parts.1) ∙ add-one (length bs)

pub before_at : (byte : ℕ) (xs rest : List ℕ) → lacks byte xs ≡ true → text_before_byte byte (xs ++ byte ∷ rest) ≡ xs
before_at byte xs rest h = take_at xs (byte ∷ rest) (index_of_byte byte (xs ++ byte ∷ rest))
    (sym (place_of_at byte xs rest h))

past_one : (xs rest : List ℕ) (byte : ℕ) → drop (suc (length xs)) (xs ++ byte ∷ rest) ≡ rest
past_one [] rest byte = refl
past_one (b ∷ bs) rest byte = past_one bs rest byte

pub after_at : (byte : ℕ) (xs rest : List ℕ) → lacks byte xs ≡ true → text_after_byte byte (xs ++ byte ∷ rest) ≡ rest
after_at byte xs rest h =
    ap (λ (n : ℕ). drop n (xs ++ byte ∷ rest)) (ap (λ (n : ℕ). n + 1) (place_of_at byte xs rest h)
    ∙ add-one (length xs)) ∙ past_one xs rest byte

-- the first byte is another
pub first_is_other : (byte : ℕ) (xs : List ℕ) → 0 < byte → lacks byte xs ≡ true → (get_or xs 0 0 == byte) ≡ false
first_is_other byte [] h k = grind arith
first_is_other byte (b ∷ bs) h k = not-true (b == byte) (and_parts (not (b == byte)) (lacks byte bs) k).0
