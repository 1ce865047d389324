-- The functions in front of spots, where others come between.
use Rattle.std.proofs.Common.{◌≡◌, ◌∙◌, ◌+◌, ◌<◌, ◌≤◌, ◌⊎◌, ℕ, List, [], ◌∷◌, ◌++◌, length, take, get_or, sym, ap, arith, inl, inr, length-append}
use Rattle.std.proofs.lemmas.List.{take-take, take-append-le, length-take-le, get_or_append_left, get_or-take}
use Rattle.std.proofs.Math.Seq.{get_or-append_seam}
use Rattle.rv_call_tree.specs.declared.call_node.CallNode.{CallNode}
use Rattle.rv_call_tree.specs.Trees.{MayFollow}

-- the first of the rest stands behind the one path as behind the other
abbrev pub StandsAlike : List ℕ → List ℕ → List CallNode → Type 0
StandsAlike front other [] = Unit {0}
StandsAlike front other (s ∷ ss) = (take s.depth front ≡ take s.depth other) × MayFollow other s

-- behind a spot that is deeper, or as deep and of a lower function, another stands as behind what is in front of that spot
pub behind_other : (depth function : ℕ) (front : List ℕ) (s : CallNode) → depth ≤ length front → MayFollow front s
    → (s.depth < depth) ⊎ ((s.depth ≡ depth) × (function < s.function))
    → (take s.depth front ≡ take s.depth (take depth front ++ function ∷ [])) × MayFollow (take depth front ++ function ∷ []) s
behind_other depth function front s long stands order =
    let own = function ∷ [] in
    let kept = length-take-le depth front long in
    let all = length-append (take depth front) own in
    let below : s.depth ≤ depth = elim order [ inl low ↦ omega arith | inr same ↦ let e = same.0 in omega (arith, e) ] in
    let alike = take-append-le s.depth (take depth front) own (omega (arith, kept)) ∙ take-take s.depth depth front below in
    let lower : s.depth < length (take depth front ++ own) → get_or (take depth front ++ own) s.depth 0 < s.function = λ _.
    elim order [
      | inl low ↦
          let inside : s.depth < length (take depth front) = omega (arith, kept) in
          let here = get_or_append_left (take depth front) own 0 s.depth inside ∙ get_or-take depth front s.depth 0 low in
          let there = stands.rising (omega (arith, long)) in
          omega (arith, here, there)
      | inr same ↦
          let seam = get_or-append_seam (take depth front) function [] 0 in
          let at : get_or (take depth front ++ own) s.depth 0 ≡ function =
          ap (λ (n : ℕ). get_or (take depth front ++ own) n 0) (same.0 ∙ sym kept) ∙ seam in
          let above = same.1 in
          omega (arith, at, above)
    ] in
    (sym alike, record { within = omega (arith, all, kept); rising = lower })
