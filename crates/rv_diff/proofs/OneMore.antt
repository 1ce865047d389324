-- A piece more behind those that stand in a text, and one more in a count.
use Rattle.std.proofs.Common.{◌≡◌, ◌∙◌, ◌+◌, ◌<◌, ◌≤◌, ◌++◌, ℕ, Bool, true, false, List, Result, Ok, Err, OnOk}
use Rattle.std.proofs.Common.{add-one, add-zero, ap, append_assoc, arith, cond, get_or, length, sym, take}
use Rattle.std.proofs.Math.Seq.{take-suc}
use Rattle.std.proofs.lemmas.List.{flat_map_more, take_all}
use Rattle.std.proofs.lemmas.List.Sums.{sum_by_more}
use Rattle.std.specs.List.{flat_map}
use Rattle.std.specs.Prelude.{count_by}

-- a piece behind what was appended so far
pub more : (old mid new a b : List ℕ) → mid ≡ old ++ a → new ≡ mid ++ b → new ≡ old ++ (a ++ b)
more old mid new a b so_far last = last ∙ ap (λ text. text ++ b) so_far ∙ append_assoc old a b

-- the last piece, which a call appends where it succeeds
pub ended : {T E : Type 0} (r : Result T E) (old mid new a b : List ℕ) → mid ≡ old ++ a
    → OnOk r (new ≡ mid ++ b) → OnOk r (new ≡ old ++ (a ++ b))
ended (Ok x) old mid new a b so_far last = more old mid new a b so_far last
ended (Err e) old mid new a b so_far last = last

-- one piece more, where each element of a list has one
pub text_more : {X : Type 0} (f : X → List ℕ) (xs : List X) (i : ℕ) (x : X) (old mid new : List ℕ) → i < length xs
    → x ≡ get_or xs i x → mid ≡ old ++ flat_map f (take i xs) → new ≡ mid ++ f x
    → new ≡ old ++ flat_map f (take (i + 1) xs)
text_more f xs i x old mid new below is so_far piece =
    rw (add-one, take-suc xs i x below)
    (piece ∙ ap (λ y. mid ++ f y) is ∙ ap (λ text. text ++ f (get_or xs i x)) so_far
    ∙ flat_map_more f old (take i xs) (get_or xs i x))

-- the pieces of all
pub text_all : {X : Type 0} (f : X → List ℕ) (xs : List X) (i : ℕ) (old new : List ℕ) → length xs ≤ i
    → new ≡ old ++ flat_map f (take i xs) → new ≡ old ++ flat_map f xs
text_all f xs i old new end so_far = so_far ∙ ap (λ ys. old ++ flat_map f ys) (take_all i xs end)

-- what is added to a count where one passes, and where it does not
pub one_where_passing : (passes : Bool) (old new : ℕ) → passes ≡ true → new ≡ old + 1 → new ≡ old + cond passes 1 0
one_where_passing passes old new is one = rw is one

pub same_where_failing : (passes : Bool) (old new : ℕ) → passes ≡ false → new ≡ old → new ≡ old + cond passes 1 0
same_where_failing passes old new is same = rw (is, add-zero) same

-- one more is counted where it passes
pub count_more : {X : Type 0} (p : X → Bool) (xs : List X) (i : ℕ) (x : X) (old new : ℕ) → i < length xs
    → x ≡ get_or xs i x → old ≡ count_by p (take i xs) → new ≡ old + cond (p x) 1 0
    → new ≡ count_by p (take (i + 1) xs)
count_more p xs i x old new below is so_far one =
    one ∙ ap (λ n. n + cond (p x) 1 0) so_far ∙ ap (λ y. count_by p (take i xs) + cond (p y) 1 0) is
    ∙ sym (sum_by_more (λ y. cond (p y) 1 0) xs i x below)

-- the count of all
pub count_all : {X : Type 0} (p : X → Bool) (xs : List X) (i n : ℕ) → length xs ≤ i → n ≡ count_by p (take i xs)
    → n ≡ count_by p xs
count_all p xs i n end so_far = so_far ∙ ap (count_by p) (take_all i xs end)

-- a count stays within the rows so far
pub within_more : (passes : Bool) (old new i : ℕ) → new ≡ old + cond passes 1 0 → old ≤ i → new ≤ i + 1
within_more true old new i one within = omega arith
within_more false old new i one within = omega arith
