-- A fold over a list's beginning, one element more.
use Rattle.std.proofs.Common.{◌≡◌, ◌++◌, ◌∷◌, ◌+◌, ◌<◌, [], ℕ, List, ap, fold, get_or, length, refl, take, ◌∙◌}
use Rattle.std.proofs.lemmas.List.{take_more}

pub fold-one : {A B : Type 0} (f : A → B → A) (start : A) (front : List B) (last : B)
    → fold f start (front ++ last ∷ []) ≡ f (fold f start front) last
fold-one f start [] last = refl
fold-one f start (first ∷ front) last = fold-one f (f start first) front last

pub fold-take : {A B : Type 0} (f : A → B → A) (start : A) (xs : List B) (at : ℕ) (d : B) → at < length xs
    → fold f start (take (at + 1) xs) ≡ f (fold f start (take at xs)) (get_or xs at d)
fold-take f start xs at d within =
    ap (λ front. fold f start front) (take_more xs at d within) ∙ fold-one f start (take at xs) (get_or xs at d)
