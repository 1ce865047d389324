-- The order of bytes, a byte at a time.
use Rattle.std.proofs.Common.{◌≡◌, ◌∙◌, ◌==◌, ◌<◌, ◌≤◌, ℕ, zero, suc, Bool, true, false, List, [], ◌∷◌, length, drop, get_or, refl, ap, arith}
use Rattle.std.proofs.lemmas.Bool.Decides.{nat_tests}
use Rattle.std.specs.Prelude.{◌&&◌, ◌||◌, nat_lt}
use Rattle.rv_count_tables.specs.Table.{is_before}

pub step : (a b : List ℕ) (i : ℕ) → i < length a → i < length b → is_before (drop i a) (drop i b)
    ≡ (nat_lt (get_or a i 0) (get_or b i 0)
    || ((get_or a i 0 == get_or b i 0) && is_before (drop (suc i) a) (drop (suc i) b)))
unfolding is_before
step [] b i h k = absurd (omega arith)
step (x ∷ a) [] i h k = absurd (omega arith)
step (x ∷ a) (y ∷ b) zero h k = refl
step (x ∷ a) (y ∷ b) (suc i) h k = step a b i (omega arith) (omega arith)

pub behind_end : (a b : List ℕ) (i : ℕ) → length a ≡ i → i < length b → is_before (drop i a) (drop i b) ≡ true
unfolding is_before
behind_end [] [] i h k = absurd (omega arith)
behind_end [] (y ∷ b) zero h k = refl
behind_end [] (y ∷ b) (suc i) h k = absurd (omega arith)
behind_end (x ∷ a) [] i h k = absurd (omega arith)
behind_end (x ∷ a) (y ∷ b) zero h k = absurd (omega arith)
behind_end (x ∷ a) (y ∷ b) (suc i) h k = behind_end a b i (omega arith) (omega arith)

none_behind : (b : List ℕ) (i : ℕ) → length b ≤ i → drop i b ≡ []
none_behind [] zero h = refl
none_behind [] (suc i) h = refl
none_behind (y ∷ b) zero h = absurd (omega arith)
none_behind (y ∷ b) (suc i) h = none_behind b i (omega arith)

none_before_no_bytes : (a : List ℕ) → is_before a [] ≡ false
unfolding is_before
none_before_no_bytes a = refl

pub before_none : (a b : List ℕ) (i : ℕ) → length b ≤ i → is_before (drop i a) (drop i b) ≡ false
before_none a b i h = ap (λ (t : List ℕ). is_before (drop i a) t) (none_behind b i h) ∙ none_before_no_bytes (drop i a)

pub less : (a b : List ℕ) (i : ℕ) → i < length a → i < length b → get_or a i 0 < get_or b i 0
    → is_before (drop i a) (drop i b) ≡ true
less a b i h k l =
    let t : nat_lt (get_or a i 0) (get_or b i 0) ≡ true = grind (arith, nat_tests) in
    step a b i h k ∙ ap (λ (s : Bool). s || ((get_or a i 0 == get_or b i 0) && is_before (drop (suc i) a) (drop (suc i) b))) t

pub more : (a b : List ℕ) (i : ℕ) → i < length a → i < length b → get_or b i 0 < get_or a i 0
    → is_before (drop i a) (drop i b) ≡ false
more a b i h k l =
    let t : nat_lt (get_or a i 0) (get_or b i 0) ≡ false = grind (arith, nat_tests) in
    let e : (get_or a i 0 == get_or b i 0) ≡ false = grind (arith, nat_tests) in
    step a b i h k ∙ ap (λ (s : Bool). s || ((get_or a i 0 == get_or b i 0) && is_before (drop (suc i) a) (drop (suc i) b))) t
    ∙ ap (λ (s : Bool). false || (s && is_before (drop (suc i) a) (drop (suc i) b))) e

pub same : (a b : List ℕ) (i : ℕ) → i < length a → i < length b → get_or a i 0 ≡ get_or b i 0
    → is_before (drop i a) (drop i b) ≡ is_before (drop (suc i) a) (drop (suc i) b)
same a b i h k l =
    let t : nat_lt (get_or a i 0) (get_or b i 0) ≡ false = grind (arith, nat_tests) in
    let e : (get_or a i 0 == get_or b i 0) ≡ true = grind (arith, nat_tests) in
    step a b i h k ∙ ap (λ (s : Bool). s || ((get_or a i 0 == get_or b i 0) && is_before (drop (suc i) a) (drop (suc i) b))) t
    ∙ ap (λ (s : Bool). false || (s && is_before (drop (suc i) a) (drop (suc i) b))) e
