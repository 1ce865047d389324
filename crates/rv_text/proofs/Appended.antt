-- Texts that are appended one after the other.
use Rattle.std.proofs.Common.{◌≡◌, ◌∙◌, ◌+◌, ◌<◌, ◌≤◌, ◌++◌, ℕ, List, Result, Ok, Err, OnOk, add-one, ap, append_assoc}
use Rattle.std.proofs.Common.{get_or, length, take}
use Rattle.std.proofs.Math.Seq.{take-suc}
use Rattle.std.proofs.lemmas.List.{flat_map_more, take_all}
use Rattle.std.specs.List.{flat_map}

-- what a call appends where it succeeds, in other words
pub told : {T E : Type 0} (r : Result T E) (old new a b : List ℕ) → a ≡ b → OnOk r (new ≡ old ++ a)
    → OnOk r (new ≡ old ++ b)
told (Ok x) old new a b same appends = appends ∙ ap (λ text. old ++ text) same
told (Err e) old new a b same appends = appends

-- a text behind what was appended so far
pub more : (old mid new a b : List ℕ) → mid ≡ old ++ a → new ≡ mid ++ b → new ≡ old ++ (a ++ b)
more old mid new a b so_far last = last ∙ (ap (λ text. text ++ b) so_far ∙ append_assoc old a b)

-- the last text, which a call appends where it succeeds
pub ended : {T E : Type 0} (r : Result T E) (old mid new a b : List ℕ) → mid ≡ old ++ a
    → OnOk r (new ≡ mid ++ b) → OnOk r (new ≡ old ++ (a ++ b))
ended (Ok x) old mid new a b so_far last = more old mid new a b so_far last
ended (Err e) old mid new a b so_far last = last

-- ---- where each element of a list has a text

-- that of one more
pub one_more : {X : Type 0} (f : X → List ℕ) (xs : List X) (i : ℕ) (d : X) (old mid new : List ℕ) → i < length xs
    → mid ≡ old ++ flat_map f (take i xs) → new ≡ mid ++ f (get_or xs i d)
    → new ≡ old ++ flat_map f (take (i + 1) xs)
one_more f xs i d old mid new below so_far text =
    rw (add-one, take-suc xs i d below)
    (text ∙ (ap (λ text. text ++ f (get_or xs i d)) so_far ∙ flat_map_more f old (take i xs) (get_or xs i d)))

-- those of all
pub all_told : {X : Type 0} (f : X → List ℕ) (xs : List X) (i : ℕ) (old new : List ℕ) → length xs ≤ i
    → new ≡ old ++ flat_map f (take i xs) → new ≡ old ++ flat_map f xs
all_told f xs i old new past so_far = so_far ∙ ap (λ some. old ++ flat_map f some) (take_all i xs past)
