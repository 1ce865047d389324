-- The calls that are told, one more at a time.
use Rattle.std.proofs.Common.{◌≡◌, ◌∙◌, ◌+◌, ◌-◌, ◌<◌, ◌≤◌, ℕ, suc, List, [], ◌∷◌, ◌++◌, length, take, reverse, get_or, sym, ap, arith, take-suc, append_assoc, append-nil, flat_map, inl, inr, eq-or-lt_of_le, Result, Ok, Err, OnOk}
use Rattle.std.proofs.lemmas.Grind.{flat_map-append}
use Rattle.std.proofs.lemmas.List.{get_or-reverse, length-reverse, take_all}
use Rattle.rv_calls.specs.declared.frames.Frame.{Frame}

pub one_told : (g : Frame → List ℕ) (fs : List Frame) (n : ℕ) (d : Frame) (start old new : List ℕ) → n < length fs
    → old ≡ start ++ flat_map g (take n (reverse fs)) → new ≡ old ++ g (get_or fs (length fs - 1 - n) d)
    → new ≡ start ++ flat_map g (take (n + 1) (reverse fs))
one_told g fs n d start old new h so_far is =
    let len = length-reverse fs in
    let inside : n < length (reverse fs) = omega (arith, len) in
    let next : n + 1 ≡ suc n = omega arith in
    let before = flat_map g (take n (reverse fs)) in
    let here = g (get_or fs (length fs - 1 - n) d) in
    is ∙ ap (λ (xs : List ℕ). xs ++ here) so_far ∙ append_assoc start before here
    ∙ ap (λ (xs : List ℕ). start ++ (before ++ xs)) (sym (append-nil here)
    ∙ ap (λ (f : Frame). g f ++ []) (sym (get_or-reverse fs n d h)))
    ∙ ap (λ (xs : List ℕ). start ++ xs) (sym (flat_map-append g (take n (reverse fs)) (get_or (reverse fs) n d ∷ [])))
    ∙ ap (λ (xs : List Frame). start ++ flat_map g xs) (sym (take-suc (reverse fs) n d inside)
    ∙ ap (λ (k : ℕ). take k (reverse fs)) (sym next))

pub all_told : (fs : List Frame) (n most : ℕ) → n ≤ most → (n < most → length fs ≤ n)
    → take n (reverse fs) ≡ take most (reverse fs)
all_told fs n most below rest =
    let len = length-reverse fs in
    elim (eq-or-lt_of_le below) [
      | inl same ↦ ap (λ (k : ℕ). take k (reverse fs)) same
      | inr less ↦ let whole = rest less in
          take_all n (reverse fs) (omega (arith, len, whole))
          ∙ sym (take_all most (reverse fs) (omega (arith, len, whole, less)))
    ]

-- a line is what leads it, its places and its end
pub ended_line : {A E : Type 0} (r : Result A E) (old lead places end before new : List ℕ) → OnOk r (new ≡ before ++ end)
    → before ≡ (old ++ lead) ++ places → OnOk r (new ≡ old ++ ((lead ++ places) ++ end))
ended_line (Ok x) old lead places end before new h e =
    h ∙ ap (λ (xs : List ℕ). xs ++ end) (e ∙ append_assoc old lead places) ∙ append_assoc old (lead ++ places) end
ended_line (Err x) old lead places end before new h e = h
