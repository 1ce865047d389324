-- Nodes, one more of them, and one in place of another.
use Rattle.std.proofs.Common.{◌≡◌, ◌∙◌, ◌+◌, ◌-◌, ◌<◌, ◌≤◌, ℕ, zero, suc, List, [], ◌∷◌, ◌++◌, length, get_or, set, refl, sym, ap, arith, length-append}
use Rattle.std.proofs.lemmas.List.{get_or_append_left}
use Rattle.std.proofs.Math.Seq.{get_or-append_seam}
use Rattle.rv_stacks.specs.declared.node.WalkNode.{WalkNode}
use Rattle.rv_stacks.specs.Nodes.{path_below, paths_appended, paths_of, path_of, weighted_sum_after, weighted_sum}

-- ---- one more

pub paths_more : (ps : List (List ℕ)) (ns : List WalkNode) (n : WalkNode)
    → paths_appended ps (ns ++ n ∷ []) ≡ paths_appended ps ns ++ path_below (paths_appended ps ns) n ∷ []
paths_more ps [] n = refl
paths_more ps (m ∷ ms) n = paths_more (ps ++ path_below ps m ∷ []) ms n

pub weighed_more : (w : List ℕ → WalkNode → ℕ) (ps : List (List ℕ)) (ns : List WalkNode) (n : WalkNode)
    → weighted_sum_after w ps (ns ++ n ∷ []) ≡ weighted_sum_after w ps ns + w (path_below (paths_appended ps ns) n) n
weighed_more w ps [] n = omega arith
weighed_more w ps (m ∷ ms) n =
    let rest = weighed_more w (ps ++ path_below ps m ∷ []) ms n in omega (arith, rest)

pub long_paths : (ps : List (List ℕ)) (ns : List WalkNode) → length (paths_appended ps ns) ≡ length ps + length ns
long_paths ps [] = omega arith
long_paths ps (m ∷ ms) =
    let rest = long_paths (ps ++ path_below ps m ∷ []) ms in
    let one = length-append ps (path_below ps m ∷ []) in
    omega (arith, rest, one)

-- the first of them stay
pub first_paths : (ps : List (List ℕ)) (ns : List WalkNode) (k : ℕ) (d : List ℕ) → k < length ps
    → get_or (paths_appended ps ns) k d ≡ get_or ps k d
first_paths ps [] k d h = refl
first_paths ps (m ∷ ms) k d h =
    let one = length-append ps (path_below ps m ∷ []) in
    first_paths (ps ++ path_below ps m ∷ []) ms k d (omega (arith, one, h))
    ∙ get_or_append_left ps (path_below ps m ∷ []) d k h

-- the functions of a node are those of the one above it, and its own
pub path_at : (ps : List (List ℕ)) (ns : List WalkNode) (index : ℕ) (d : WalkNode) → index < length ns
    → (get_or ns index d).parent < length ps + index
    → get_or (paths_appended ps ns) (length ps + index) []
    ≡ get_or (paths_appended ps ns) (get_or ns index d).parent [] ++ (get_or ns index d).function ∷ []
path_at ps [] index d within has_parent = absurd (omega (arith, within))
path_at ps (m ∷ ms) zero d within above =
    let longer = ps ++ path_below ps m ∷ [] in
    let one = length-append ps (path_below ps m ∷ []) in
    let at : length ps + 0 ≡ length ps = omega arith in
    let here : get_or (paths_appended longer ms) (length ps + 0) [] ≡ path_below ps m =
    ap (λ (k : ℕ). get_or (paths_appended longer ms) k []) at
    ∙ first_paths longer ms (length ps) [] (omega (arith, one))
    ∙ get_or-append_seam ps (path_below ps m) [] [] in
    let there : get_or (paths_appended longer ms) m.parent [] ≡ get_or ps m.parent [] =
    first_paths longer ms m.parent [] (omega (arith, one, above))
    ∙ get_or_append_left ps (path_below ps m ∷ []) [] m.parent (omega (arith, above)) in
    here ∙ ap (λ (p : List ℕ). p ++ m.function ∷ []) (sym there)
path_at ps (m ∷ ms) (suc index) d within above =
    let longer = ps ++ path_below ps m ∷ [] in
    let one = length-append ps (path_below ps m ∷ []) in
    let at : length ps + suc index ≡ length longer + index = omega (arith, one) in
    ap (λ (k : ℕ). get_or (paths_appended longer ms) k []) at
    ∙ path_at longer ms index d (omega (arith, within)) (omega (arith, above, one))

-- ---- a node in place of another, below the same one and of the same function

pub record IsOfSame (n m : WalkNode) : Type 0 where
  pub parent : n.parent ≡ m.parent
  pub function : n.function ≡ m.function

same_below : (ps : List (List ℕ)) (n m : WalkNode) → IsOfSame n m → path_below ps n ≡ path_below ps m
same_below ps n m h =
    ap (λ (k : ℕ). get_or ps k [] ++ n.function ∷ []) h.parent ∙ ap (λ (f : ℕ). get_or ps m.parent [] ++ f ∷ []) h.function

pub paths_stay : (ps : List (List ℕ)) (ns : List WalkNode) (index : ℕ) (n d : WalkNode) → index < length ns
    → IsOfSame n (get_or ns index d) → paths_appended ps (set ns index n) ≡ paths_appended ps ns
paths_stay ps [] index n d within h = absurd (omega (arith, within))
paths_stay ps (m ∷ ms) zero n d within h =
    ap (λ (p : List ℕ). paths_appended (ps ++ p ∷ []) ms) (same_below ps n m h)
paths_stay ps (m ∷ ms) (suc index) n d within h = paths_stay (ps ++ path_below ps m ∷ []) ms index n d (omega (arith, within)) h

pub weighed_set : (w : List ℕ → WalkNode → ℕ) (ps : List (List ℕ)) (ns : List WalkNode) (index : ℕ) (n d : WalkNode) → index < length ns
    → IsOfSame n (get_or ns index d)
    → weighted_sum_after w ps (set ns index n) + w (get_or (paths_appended ps ns) (length ps + index) []) (get_or ns index d)
    ≡ weighted_sum_after w ps ns + w (get_or (paths_appended ps ns) (length ps + index) []) n
weighed_set w ps [] index n d within h = absurd (omega (arith, within))
weighed_set w ps (m ∷ ms) zero n d within h =
    let longer = ps ++ path_below ps m ∷ [] in
    let one = length-append ps (path_below ps m ∷ []) in
    let at : length ps + 0 ≡ length ps = omega arith in
    let here : get_or (paths_appended longer ms) (length ps + 0) [] ≡ path_below ps m =
    ap (λ (k : ℕ). get_or (paths_appended longer ms) k []) at
    ∙ first_paths longer ms (length ps) [] (omega (arith, one))
    ∙ get_or-append_seam ps (path_below ps m) [] [] in
    let moved : weighted_sum_after w ps (n ∷ ms) ≡ w (path_below ps m) n + weighted_sum_after w longer ms =
    ap (λ (p : List ℕ). w p n + weighted_sum_after w (ps ++ p ∷ []) ms) (same_below ps n m h) in
    let of_old = ap (λ (p : List ℕ). w p m) here in
    let of_new = ap (λ (p : List ℕ). w p n) here in
    omega (arith, moved, of_old, of_new)
weighed_set w ps (m ∷ ms) (suc index) n d within h =
    let longer = ps ++ path_below ps m ∷ [] in
    let one = length-append ps (path_below ps m ∷ []) in
    let at : length ps + suc index ≡ length longer + index = omega (arith, one) in
    let there = ap (λ (k : ℕ). get_or (paths_appended longer ms) k []) at in
    let rest = weighed_set w longer ms index n d (omega (arith, within)) h in
    let of_old = ap (λ (p : List ℕ). w p (get_or ms index d)) there in
    let of_new = ap (λ (p : List ℕ). w p n) there in
    omega (arith, rest, of_old, of_new)

-- what one node weighs is in the sum of all
pub at_most_all : (w : List ℕ → WalkNode → ℕ) (ps : List (List ℕ)) (ns : List WalkNode) (index : ℕ) (d : WalkNode) → index < length ns
    → ((p : List ℕ) (n : WalkNode) → w p n ≡ w [] n) → w [] (get_or ns index d) ≤ weighted_sum_after w ps ns
at_most_all w ps [] index d within alike = absurd (omega (arith, within))
at_most_all w ps (m ∷ ms) zero d within alike = let a = alike (path_below ps m) m in omega (arith, a)
at_most_all w ps (m ∷ ms) (suc index) d within alike =
    let rest = at_most_all w (ps ++ path_below ps m ∷ []) ms index d (omega (arith, within)) alike in omega (arith, rest)

-- ---- by numbers

-- what stands at number 0
abbrev root : List (List ℕ)
root = [] ∷ []

-- the node of a number in place of another
module _ (nodes : List WalkNode) (number : ℕ) (some : 0 < number) (within : number < length nodes + 1) where
  inside : number - 1 < length nodes
  inside = omega (arith, some, within)

  at_number : length root + (number - 1) ≡ number
  at_number = omega (arith, some)

  pub path_with : (parent : ℕ) (d : WalkNode) → (get_or nodes (number - 1) d).parent ≡ parent → parent < number
      → path_of number nodes ≡ path_of parent nodes ++ (get_or nodes (number - 1) d).function ∷ []
  path_with parent d above behind =
      let less : (get_or nodes (number - 1) d).parent < length root + (number - 1) = omega (arith, above, behind, some) in
      ap (λ (k : ℕ). path_of k nodes) (sym at_number)
      ∙ path_at root nodes (number - 1) d inside less
      ∙ ap (λ (k : ℕ). path_of k nodes ++ (get_or nodes (number - 1) d).function ∷ []) above

  pub weighed_with : (w : List ℕ → WalkNode → ℕ) (n d : WalkNode) → IsOfSame n (get_or nodes (number - 1) d)
      → weighted_sum w (set nodes (number - 1) n) + w (path_of number nodes) (get_or nodes (number - 1) d)
      ≡ weighted_sum w nodes + w (path_of number nodes) n
  weighed_with w n d h =
      let all = weighed_set w root nodes (number - 1) n d inside h in
      let same = ap (λ (k : ℕ). path_of k nodes) at_number in
      let of_old = ap (λ (p : List ℕ). w p (get_or nodes (number - 1) d)) same in
      let of_new = ap (λ (p : List ℕ). w p n) same in
      omega (arith, all, of_old, of_new)

  pub paths_with : (n d : WalkNode) → IsOfSame n (get_or nodes (number - 1) d)
      → paths_of (set nodes (number - 1) n) ≡ paths_of nodes
  paths_with n d h = paths_stay root nodes (number - 1) n d inside h
