-- The lines of a text are all of it, and the first that differs from another text's is where both part.
use Rattle.std.proofs.Common.{◌≡◌, ◌≢◌, ◌∙◌, refl, ap, sym, ℕ, suc, ◌+◌, ◌<◌, List, [], ◌∷◌, length, take, drop, arith}
use Rattle.std.proofs.Common.{Bool, true, false, true≢false, cond}
use Rattle.std.specs.List.{common_prefix_len, flat_map, onto_first}
use Rattle.std.specs.Str.{bytes_eq}
use Rattle.std.proofs.lemmas.Slice.Eq.{bytes_eq-Decides}
use Rattle.rv_job_text.specs.ConsoleTail.{is_line_feed}
use Rattle.rv_job_text.specs.ConsoleLines.{DifferFirstAt, equal_line_count, first_or_empty, complete_lines}
use Rattle.rv_job_text.proofs.DifferingLines.{equal_bytes}

-- ---- all of a text

flat_step : (feed : Bool) (byte : ℕ) (lines : List (List ℕ)) →
    flat_map (λ line. line) (cond feed ((byte ∷ []) ∷ lines) (onto_first byte lines)) ≡ byte ∷ flat_map (λ line. line) lines
flat_step true byte lines = refl
flat_step false byte [] = refl
flat_step false byte (line ∷ lines) = refl

pub complete_lines-flat : (text : List ℕ) → flat_map (λ line. line) (complete_lines text) ≡ text
unfolding complete_lines
complete_lines-flat [] = refl
complete_lines-flat (byte ∷ rest) =
    flat_step (is_line_feed byte) byte (complete_lines rest) ∙ ap (λ bytes. byte ∷ bytes) (complete_lines-flat rest)

-- ---- no line is empty

AreFull : List (List ℕ) → Type 0
AreFull [] = Unit {0}
AreFull (line ∷ lines) = (0 < length line) × AreFull lines

full_step : (feed : Bool) (byte : ℕ) (lines : List (List ℕ)) → AreFull lines
    → AreFull (cond feed ((byte ∷ []) ∷ lines) (onto_first byte lines))
unfolding AreFull
full_step true byte lines full = (omega arith, full)
full_step false byte [] full = (omega arith, tt)
full_step false byte (line ∷ lines) full = (omega arith, full.1)

are_full : (text : List ℕ) → AreFull (complete_lines text)
unfolding complete_lines AreFull
are_full [] = tt
are_full (byte ∷ rest) = full_step (is_line_feed byte) byte (complete_lines rest) (are_full rest)

-- ---- where two texts part

before_step : (same : Bool) (x y : List ℕ) (n : ℕ) (xs ys : List (List ℕ)) → bytes_eq x y ≡ same → take n xs ≡ take n ys
    → take (cond same (1 + n) 0) (x ∷ xs) ≡ take (cond same (1 + n) 0) (y ∷ ys)
before_step true x y n xs ys equal before =
    let one_more : 1 + n ≡ suc n = omega arith in
    rw one_more
    (ap (λ line. line ∷ take n xs) ((bytes_eq-Decides x y).0 equal) ∙ ap (λ lines. y ∷ lines) before)
before_step false x y n xs ys equal before = refl

equal_before : (xs ys : List (List ℕ)) → take (common_prefix_len bytes_eq xs ys) xs ≡ take (common_prefix_len bytes_eq xs ys) ys
equal_before [] ys = refl
equal_before (x ∷ xs) [] = refl
equal_before (x ∷ xs) (y ∷ ys) =
    before_step (bytes_eq x y) x y (common_prefix_len bytes_eq xs ys) xs ys refl (equal_before xs ys)

there_step : (same : Bool) (x y : List ℕ) (n : ℕ) (xs ys : List (List ℕ)) → bytes_eq x y ≡ same
    → ((xs ≡ ys → ⊥) → first_or_empty (drop n xs) ≡ first_or_empty (drop n ys) → ⊥) → (x ∷ xs ≡ y ∷ ys → ⊥)
    → first_or_empty (drop (cond same (1 + n) 0) (x ∷ xs)) ≡ first_or_empty (drop (cond same (1 + n) 0) (y ∷ ys)) → ⊥
there_step true x y n xs ys equal behind other =
    let one_more : 1 + n ≡ suc n = omega arith in
    rw one_more
    (behind (λ rest. other (ap (λ line. line ∷ xs) ((bytes_eq-Decides x y).0 equal) ∙ ap (λ lines. y ∷ lines) rest)))
there_step false x y n xs ys equal behind other = λ front. true≢false (sym (equal_bytes x y front) ∙ equal)

differ_there : (xs ys : List (List ℕ)) → AreFull xs → AreFull ys → (xs ≡ ys → ⊥)
    → first_or_empty (drop (common_prefix_len bytes_eq xs ys) xs) ≡ first_or_empty (drop (common_prefix_len bytes_eq xs ys) ys) → ⊥
unfolding AreFull
differ_there [] [] full_x full_y other = λ front. other refl
differ_there [] (y ∷ ys) full_x full_y other = λ front. let none : 0 ≡ length y = ap length front in omega (arith, full_y.0)
differ_there (x ∷ xs) [] full_x full_y other = λ front. let none : length x ≡ 0 = ap length front in omega (arith, full_x.0)
differ_there (x ∷ xs) (y ∷ ys) full_x full_y other =
    there_step (bytes_eq x y) x y (common_prefix_len bytes_eq xs ys) xs ys refl
    (differ_there xs ys full_x.1 full_y.1) other

pub differ_first : (actual expected : List ℕ) → actual ≢ expected
    → DifferFirstAt (equal_line_count actual expected) (complete_lines actual) (complete_lines expected)
differ_first actual expected other = record {
  before = equal_before (complete_lines actual) (complete_lines expected);
  differ = differ_there (complete_lines actual) (complete_lines expected) (are_full actual) (are_full expected)
      (λ same. other (sym (complete_lines-flat actual) ∙ ap (flat_map (λ line. line)) same ∙ complete_lines-flat expected));
}
