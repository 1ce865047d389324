-- What is below a spot, from child to child.
use Rattle.std.proofs.Common.{◌≡◌, ◌∙◌, ◌+◌, ◌-◌, ◌<◌, ◌≤◌, ℕ, zero, suc, Bool, true, false, cond, List, [], ◌∷◌, ◌++◌, length, take, drop, get_or, refl, sym, ap, subst, arith, length-append, drop-drop}
use Rattle.std.specs.Prelude.{nat_lt, reverse}
use Rattle.std.proofs.lemmas.List.{drop_more, get_or-drop, get_or-reverse, length-drop, length-reverse, take-append-drop}
use Rattle.rv_call_tree.specs.declared.call_node.CallNode.{CallNode}
use Rattle.rv_call_tree.specs.declared.subtree.Subtree.{Subtree}
use Rattle.rv_call_tree.specs.Subtrees.{below, subtree, subtrees_from}
use Rattle.rv_call_tree.specs.Trees.{all_steps, steps_of}
use Rattle.rv_call_tree.proofs.Parts.{sum_parts}
use Rattle.rv_call_tree.proofs.Tests.{less_by, less_test}

-- ---- what is below

deeper : (depth : ℕ) (s : CallNode) (ss : List CallNode) → depth < s.depth → below depth (s ∷ ss) ≡ s ∷ below depth ss
deeper depth s ss deep = ap (λ (b : Bool). cond b (s ∷ below depth ss) []) (less_test depth s.depth deep)

-- all below a deeper spot is below, and then what is behind it
parts_with : (d e : ℕ) (s : CallNode) (ss : List CallNode) → d ≤ e → below d ss ≡ below e ss ++ below d (drop (length (below e ss)) ss)
    → (b : Bool) → nat_lt e s.depth ≡ b
    → below d (s ∷ ss) ≡ cond b (s ∷ below e ss) [] ++ below d (drop (length (cond b (s ∷ below e ss) [])) (s ∷ ss))
parts_with d e s ss le rest false is = refl
parts_with d e s ss le rest true is =
    deeper d s ss (let deep = less_by e s.depth is in omega (arith, le, deep)) ∙ ap (λ (zs : List CallNode). s ∷ zs) rest

below_parts : (d e : ℕ) (ss : List CallNode) → d ≤ e → below d ss ≡ below e ss ++ below d (drop (length (below e ss)) ss)
below_parts d e [] le = refl
below_parts d e (s ∷ ss) le = parts_with d e s ss le (below_parts d e ss le) (nat_lt e s.depth) refl

fewer_with : (d : ℕ) (s : CallNode) (ss : List CallNode) → length (below d ss) ≤ length ss → (b : Bool)
    → length (cond b (s ∷ below d ss) []) ≤ length (s ∷ ss)
fewer_with d s ss rest false = omega arith
fewer_with d s ss rest true = omega (arith, rest)

below_few : (d : ℕ) (ss : List CallNode) → length (below d ss) ≤ length ss
below_few d [] = omega arith
below_few d (s ∷ ss) = fewer_with d s ss (below_few d ss) (nat_lt d s.depth)

steps_with : (d : ℕ) (s : CallNode) (ss : List CallNode) → all_steps (below d ss) ≤ all_steps ss → (b : Bool)
    → all_steps (cond b (s ∷ below d ss) []) ≤ all_steps (s ∷ ss)
steps_with d s ss rest false = omega arith
steps_with d s ss rest true = omega (arith, rest)

below_fits : (d : ℕ) (ss : List CallNode) → all_steps (below d ss) ≤ all_steps ss
below_fits d [] = omega arith
below_fits d (s ∷ ss) = steps_with d s ss (below_fits d ss) (nat_lt d s.depth)

-- ---- subtrees by their places

subtrees_long : (place : ℕ) (ss : List CallNode) → length (subtrees_from place ss) ≡ length ss
subtrees_long place [] = refl
subtrees_long place (s ∷ ss) = let rest = subtrees_long (place + 1) ss in omega (arith, rest)

at_place : (from k : ℕ) (ss : List CallNode) (d : Subtree) (e : CallNode) → k < length ss
    → get_or (subtrees_from from ss) k d ≡ subtree (from + k) (get_or ss k e) (drop (k + 1) ss)
at_place from k [] d e within = absurd (omega arith)
at_place from zero (s ∷ ss) d e within =
    let same : from ≡ from + 0 = omega arith in ap (λ (n : ℕ). subtree n s ss) same
at_place from (suc k) (s ∷ ss) d e within =
    let same : (from + 1) + k ≡ from + suc k = omega arith in
    let next : suc (k + 1) ≡ suc k + 1 = omega arith in
    at_place (from + 1) k ss d e (omega arith)
    ∙ ap (λ (n : ℕ). subtree n (get_or ss k e) (drop (k + 1) ss)) same
    ∙ ap (λ (n : ℕ). subtree (from + suc k) (get_or ss k e) (drop n (s ∷ ss))) next

-- the subtree of a spot behind a place, where those behind it stand the last first
pub child_is : (nodes : List CallNode) (place end : ℕ) (behind : List Subtree) (d : Subtree) (e : CallNode) → place < end → end < length nodes
    → reverse behind ≡ subtrees_from (place + 1) (drop (place + 1) nodes)
    → get_or behind (length nodes - 1 - end) d ≡ subtree end (get_or nodes end e) (drop (end + 1) nodes)
child_is nodes place end behind d e far within is =
    let rest = drop (place + 1) nodes in
    let k = end - (place + 1) in
    let some = length-drop (place + 1) nodes in
    let all = ap length is in
    let same = length-reverse behind in
    let as_many = subtrees_long (place + 1) rest in
    let inside : k < length behind = omega (arith, far, within, some, all, same, as_many) in
    let turned : length nodes - 1 - end ≡ length behind - 1 - k = omega (arith, far, within, some, all, same, as_many) in
    let there : (place + 1) + k ≡ end = omega (arith, far) in
    let next : (place + 1) + (k + 1) ≡ end + 1 = omega (arith, far) in
    ap (λ (n : ℕ). get_or behind n d) turned
    ∙ sym (get_or-reverse behind k d inside)
    ∙ ap (λ (ts : List Subtree). get_or ts k d) is
    ∙ at_place (place + 1) k rest d e (omega (arith, far, within, some))
    ∙ (λ i. subtree (there i) (get_or-drop (place + 1) nodes k e i) (drop-drop (k + 1) (place + 1) nodes i))
    ∙ (λ i. subtree end (get_or nodes (there i) e) (drop (next i) nodes))

pub child_within : (nodes : List CallNode) (place end : ℕ) (behind : List Subtree) → place < end → end < length nodes
    → reverse behind ≡ subtrees_from (place + 1) (drop (place + 1) nodes) → length nodes - 1 - end < length behind
child_within nodes place end behind far within is =
    let some = length-drop (place + 1) nodes in
    let all = ap length is in
    let same = length-reverse behind in
    let as_many = subtrees_long (place + 1) (drop (place + 1) nodes) in
    omega (arith, far, within, some, all, same, as_many)

pub child_further : (end : ℕ) (s : CallNode) (ss : List CallNode) (child : Subtree) → child ≡ subtree end s ss → end < child.end
child_further end s ss child is = let ends = ap (λ (t : Subtree). t.end) is in omega (arith, ends)

-- ---- from child to child

-- all below the spot of a place that stands in front of another place is counted
pub record Descended (nodes : List CallNode) (place : ℕ) (s : CallNode) (end inclusive : ℕ) : Type 0 where
  pub behind : place < end
  pub within : end ≤ length nodes
  pub ends : end + length (below s.depth (drop end nodes)) ≡ place + 1 + length (below s.depth (drop (place + 1) nodes))
  pub steps : inclusive + all_steps (below s.depth (drop end nodes)) ≡ s.steps + all_steps (below s.depth (drop (place + 1) nodes))

-- a child, and all behind it
split : (depth end : ℕ) (nodes : List CallNode) (e : CallNode) → end < length nodes → depth < (get_or nodes end e).depth
    → below depth (drop end nodes) ≡ get_or nodes end e ∷ (below (get_or nodes end e).depth (drop (end + 1) nodes)
    ++ below depth (drop (end + 1 + length (below (get_or nodes end e).depth (drop (end + 1) nodes))) nodes))
split depth end nodes e within deep =
    let t = get_or nodes end e in
    let rest = drop (end + 1) nodes in
    ap (below depth) (drop_more nodes end e within)
    ∙ deeper depth t rest deep
    ∙ ap (λ (zs : List CallNode). t ∷ zs) (below_parts depth t.depth rest (omega (arith, deep)))
    ∙ ap (λ (zs : List CallNode). t ∷ (below t.depth rest ++ below depth zs)) (drop-drop (length (below t.depth rest)) (end + 1) nodes)

pub one_child : (nodes : List CallNode) (place : ℕ) (s : CallNode) (end inclusive : ℕ) (e : CallNode) (child : Subtree)
    → Descended nodes place s end inclusive → end < length nodes → s.depth < (get_or nodes end e).depth
    → child ≡ subtree end (get_or nodes end e) (drop (end + 1) nodes) → Descended nodes place s child.end (inclusive + child.inclusive)
one_child nodes place s end inclusive e child h within deep is =
    let t = get_or nodes end e in
    let rest = drop (end + 1) nodes in
    let left = below s.depth (drop (end + 1 + length (below t.depth rest)) nodes) in
    let all = split s.depth end nodes e within deep in
    let counts = ap length all in
    let count = length-append (below t.depth rest) left in
    let sums = ap all_steps all in
    let sum = sum_parts steps_of (below t.depth rest) left in
    let few = below_few t.depth rest in
    let some = length-drop (end + 1) nodes in
    let far = h.behind in
    let ends = h.ends in
    let steps = h.steps in
    let next : Descended nodes place s (subtree end t rest).end (inclusive + (subtree end t rest).inclusive) = record {
      behind = omega (arith, far);
      within = omega (arith, few, some, within);
      ends = omega (arith, ends, counts, count);
      steps = omega (arith, steps, sums, sum);
    } in
    subst (λ (c : Subtree). Descended nodes place s c.end (inclusive + c.inclusive)) (sym is) next

-- the steps of all below the spot are some of all steps
pub child_fits : (nodes : List CallNode) (place : ℕ) (s : CallNode) (end inclusive : ℕ) (e : CallNode) (child : Subtree)
    → Descended nodes place s end inclusive → end < length nodes → s.depth < (get_or nodes end e).depth
    → child ≡ subtree end (get_or nodes end e) (drop (end + 1) nodes)
    → inclusive + child.inclusive ≤ s.steps + all_steps (drop (place + 1) nodes)
child_fits nodes place s end inclusive e child h within deep is =
    let steps = (one_child nodes place s end inclusive e child h within deep is).steps in
    let few = below_fits s.depth (drop (place + 1) nodes) in
    omega (arith, steps, few)

-- ---- steps that fit

pub one_of_all : (nodes : List CallNode) (place : ℕ) (e : CallNode) → place < length nodes
    → (get_or nodes place e).steps + all_steps (drop (place + 1) nodes) ≤ all_steps nodes
one_of_all nodes place e within =
    let parts = sum_parts steps_of (take place nodes) (drop place nodes) in
    let whole = ap all_steps (take-append-drop place nodes) in
    let here = ap all_steps (drop_more nodes place e within) in
    omega (arith, parts, whole, here)
