-- Texts that lack a byte, and where a text is cut at it.
use Rattle.std.proofs.Common.{◌≡◌, ◌∙◌, ◌==◌, ◌+◌, ℕ, suc, Bool, true, false, not, cond, List, [], ◌∷◌, ◌++◌}
use Rattle.std.proofs.Common.{length, take, drop, refl, sym, ap, arith, add-one, append_assoc, length-append, ◌⊎◌, inl, inr}
use Rattle.std.proofs.lemmas.Bool.{and_parts, and_from, not-true, cases_Bool, eqb-true}
use Rattle.std.proofs.lemmas.List.{take_at}
use Rattle.rv_count_tables.specs.Lines.{lacks, index_of_byte, text_before_byte, text_after_byte, whole_line}

pub lacks-append : (byte : ℕ) (xs ys : List ℕ) → lacks byte xs ≡ true → lacks byte ys ≡ true
    → lacks byte (xs ++ ys) ≡ true
lacks-append byte [] ys h k = k
lacks-append byte (b ∷ bs) ys h k =
    let parts = and_parts (not (b == byte)) (lacks byte bs) h in
    and_from (not (b == byte)) (lacks byte (bs ++ ys)) parts.0 (lacks-append byte bs ys parts.1 k)

same_byte : (b : ℕ) → (b == b) ≡ true
same_byte b = grind arith

pub place_of_at : (byte : ℕ) (xs rest : List ℕ) → lacks byte xs ≡ true → index_of_byte byte (xs ++ byte ∷ rest) ≡ length xs
unfolding index_of_byte
place_of_at byte [] rest h = ap (λ (t : Bool). cond t 0 (index_of_byte byte rest + 1)) (same_byte byte)
place_of_at byte (b ∷ bs) rest h =
    let parts = and_parts (not (b == byte)) (lacks byte bs) h in
    let other : (b == byte) ≡ false = not-true (b == byte) parts.0 in
    ap (λ (t : Bool). cond t 0 (index_of_byte byte (bs ++ byte ∷ rest) + 1)) other
    ∙ ap (λ (n : ℕ). n + 1) (place_of_at byte bs rest parts.1) ∙ add-one (length bs)

pub before_at : (byte : ℕ) (xs rest : List ℕ) → lacks byte xs ≡ true → text_before_byte byte (xs ++ byte ∷ rest) ≡ xs
before_at byte xs rest h = take_at xs (byte ∷ rest) (index_of_byte byte (xs ++ byte ∷ rest))
    (sym (place_of_at byte xs rest h))

past_one : (xs rest : List ℕ) (byte : ℕ) → drop (suc (length xs)) (xs ++ byte ∷ rest) ≡ rest
past_one [] rest byte = refl
past_one (b ∷ bs) rest byte = past_one bs rest byte

pub after_at : (byte : ℕ) (xs rest : List ℕ) → lacks byte xs ≡ true → text_after_byte byte (xs ++ byte ∷ rest) ≡ rest
after_at byte xs rest h =
    ap (λ (n : ℕ). drop n (xs ++ byte ∷ rest)) (ap (λ (n : ℕ). n + 1) (place_of_at byte xs rest h)
    ∙ add-one (length xs)) ∙ past_one xs rest byte

-- ---- two texts that are cut at one byte

pub same_cut : (byte : ℕ) (xs ys s t : List ℕ) → lacks byte xs ≡ true → lacks byte ys ≡ true
    → xs ++ byte ∷ s ≡ ys ++ byte ∷ t → (xs ≡ ys) × (s ≡ t)
same_cut byte xs ys s t h k e = (
  sym (before_at byte xs s h) ∙ ap (text_before_byte byte) e ∙ before_at byte ys t k,
  sym (after_at byte xs s h) ∙ ap (text_after_byte byte) e ∙ after_at byte ys t k,
)

-- ---- lines

not_length : (n m : ℕ) → (n == n + suc m) ≡ false
not_length n m = grind arith

pub line_at : (xs rest : List ℕ) → lacks 10 xs ≡ true → whole_line (xs ++ 10 ∷ rest) ≡ xs ++ 10 ∷ []
unfolding whole_line
line_at xs rest h =
    let at = place_of_at 10 xs rest h in
    let long : length (xs ++ 10 ∷ rest) ≡ length xs + suc (length rest) = length-append xs (10 ∷ rest) in
    let t : (index_of_byte 10 (xs ++ 10 ∷ rest) == length (xs ++ 10 ∷ rest)) ≡ false =
    (λ i. at i == long i) ∙ not_length (length xs) (length rest) in
    ap (λ (b : Bool). cond b [] (take (index_of_byte 10 (xs ++ 10 ∷ rest) + 1) (xs ++ 10 ∷ rest))) t
    ∙ ap (λ (n : ℕ). take (n + 1) (xs ++ 10 ∷ rest)) at
    ∙ ap (λ (s : List ℕ). take (length xs + 1) s) (sym (append_assoc xs (10 ∷ []) rest))
    ∙ take_at (xs ++ 10 ∷ []) rest (length xs + 1) (length-append xs (10 ∷ []))

same_number : (n : ℕ) → (n == n) ≡ true
same_number n = grind arith

lacking_place : (byte : ℕ) (xs : List ℕ) → lacks byte xs ≡ true → index_of_byte byte xs ≡ length xs
unfolding index_of_byte
lacking_place byte [] h = refl
lacking_place byte (b ∷ bs) h =
    let parts = and_parts (not (b == byte)) (lacks byte bs) h in
    let other : (b == byte) ≡ false = not-true (b == byte) parts.0 in
    ap (λ (t : Bool). cond t 0 (index_of_byte byte bs + 1)) other
    ∙ ap (λ (n : ℕ). n + 1) (lacking_place byte bs parts.1) ∙ add-one (length bs)

-- a text is without a line feed, or it is a line and what stands behind it
pub record IsLineAhead (text : List ℕ) : Type 0 where
  pub front : List ℕ
  pub rest : List ℕ
  pub plain : lacks 10 front ≡ true
  pub all : text ≡ front ++ 10 ∷ rest

pub cases_line : (text : List ℕ) → (lacks 10 text ≡ true) ⊎ IsLineAhead text
cases_line [] = inl refl
cases_line (b ∷ bs) = elim (cases_Bool (b == 10)) [
  | inl e ↦ inr (record { front = []; rest = bs; plain = refl; all = ap (λ (n : ℕ). n ∷ bs) (eqb-true b 10 e) })
  | inr e ↦ elim (cases_line bs) [
    | inl h ↦ inl (and_from (not (b == 10)) (lacks 10 bs) (ap not e) h)
    | inr h ↦ inr (record {
      front = b ∷ h.front;
      rest = h.rest;
      plain = and_from (not (b == 10)) (lacks 10 h.front) (ap not e) h.plain;
      all = ap (λ (s : List ℕ). b ∷ s) h.all;
    })
  ]
]

pub no_line : (text : List ℕ) → lacks 10 text ≡ true → whole_line text ≡ []
unfolding whole_line
no_line text h =
    let t : (index_of_byte 10 text == length text) ≡ true =
    ap (λ (n : ℕ). n == length text) (lacking_place 10 text h) ∙ same_number (length text) in
    ap (λ (b : Bool). cond b [] (take (index_of_byte 10 text + 1) text)) t
