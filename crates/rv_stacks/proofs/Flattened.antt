-- Nodes' counts that move to spots.
use Rattle.std.proofs.Common.{◌≡◌, ◌∙◌, ◌==◌, ◌+◌, ◌-◌, ◌<◌, ℕ, Bool, true, false, cond, List, [], ◌∷◌, ◌++◌, length, take, get_or, set, refl, sym, ap, subst, arith}
use Rattle.std.proofs.lemmas.Bool.{and_parts, eqb-true}
use Rattle.std.proofs.lemmas.List.{take_all}
use Rattle.std.specs.List.{list_all}
use Rattle.std.specs.Str.{bytes_eq}
use Rattle.rv_count_tables.specs.declared_call_node.CallNode.{CallNode}
use Rattle.rv_count_tables.specs.Trees.{calls_of_node, sum_over_path, sum_over_nodes, last_path, path_after, steps_if, steps_of, HasCalls, IsTree, MayFollow}
use Rattle.rv_count_tables.specs.Trees as spots
use Rattle.rv_count_tables.proofs.Public.{last_parts, stand_of_parts}
use Rattle.rv_stacks.specs.declared.preorder.PreorderBuilder.{PreorderBuilder}
use Rattle.rv_stacks.specs.declared.node.WalkNode.{WalkNode}
use Rattle.rv_stacks.specs.Nodes.{all_steps, calls_at, is_empty, own_steps_of, path_below, path_of, steps_at, weighted_sum, weighted_sum_after}
use Rattle.rv_stacks.specs.Walks.{ArePreorderOf, ReturnsToParent, IsPreorderBuilder, IsNextChild, IsTrail, MovesCounts}
use Rattle.rv_stacks.proofs.Growing.{trail_longer, trail_stays}
use Rattle.rv_stacks.proofs.Nodes.{first_paths, path_with, paths_with, weighed_with, IsOfSame}
use Rattle.std.proofs.Common.{length-set}

-- ---- a spot more

counted_more : (count : CallNode → ℕ) (path front : List ℕ) (ss : List CallNode) (s : CallNode)
    → sum_over_path count path front (ss ++ s ∷ [])
    ≡ sum_over_path count path front ss + cond (bytes_eq (path_after (last_path front ss) s) path) (count s) 0
counted_more count path front [] s = omega arith
counted_more count path front (x ∷ xs) s =
    let rest = counted_more count path (path_after front x) xs s in omega (arith, rest)

sum_more : (count : CallNode → ℕ) (ss : List CallNode) (s : CallNode) → sum_over_nodes count (ss ++ s ∷ []) ≡ sum_over_nodes count ss + count s
sum_more count [] s = omega arith
sum_more count (x ∷ xs) s = let rest = sum_more count xs s in omega (arith, rest)

some_more : (ss : List CallNode) (s : CallNode) → HasCalls ss → 0 < s.calls → HasCalls (ss ++ s ∷ [])
some_more [] s h k = (k, tt)
some_more (x ∷ xs) s h k = (h.0, some_more xs s h.1 k)

no_weight : (b : Bool) → ◌≡◌ {A = ℕ} (cond b 0 0) 0
no_weight true = refl
no_weight false = refl

-- ---- a node whose counts move

module _ (nodes : List WalkNode) (old new : PreorderBuilder) (number : ℕ) (node : WalkNode) (depth : ℕ)
    (h : IsPreorderBuilder nodes old) (each : (d : ℕ) → IsNextChild (get_or old.trail.items (length old.path.items) d) old.from number nodes)
    (is : node ≡ get_or nodes (number - 1) node) (deep : depth ≡ length old.path.items)
    (path : new.path.items ≡ old.path.items ++ node.function ∷ []) (trail : new.trail.items ≡ old.trail.items ++ number ∷ [])
    (spot_is : new.nodes.items ≡ old.nodes.items
    ++ record { depth = depth; function = node.function; calls = node.calls; steps = node.steps } ∷ []) where
  abbrev front : List ℕ
  front = last_path [] old.nodes.items

  abbrev parent : ℕ
  parent = get_or old.trail.items (length old.path.items) 0

  abbrev spot : CallNode
  spot = record { depth = depth; function = node.function; calls = node.calls; steps = node.steps }

  abbrev emptied : WalkNode
  emptied = record { parent = node.parent; function = node.function; calls = 0; steps = 0 }

  next : IsNextChild parent old.from number nodes
  next = each 0

  some : 0 < number
  some = let b = next.after_parent in omega (arith, b)

  one : number - 1 + 1 ≡ number
  one = let s = some in omega (arith, s)

  same : IsOfSame emptied (get_or nodes (number - 1) node)
  same = record { parent = ap (λ (x : WalkNode). x.parent) is; function = ap (λ (x : WalkNode). x.function) is }

  of_parent : path_of parent nodes ≡ old.path.items
  of_parent =
      let long = h.trail.long in
      h.trail.paths (length old.path.items) 0 (omega (arith, long)) ∙ take_all (length old.path.items) old.path.items (omega arith)

  of_number : path_of number nodes ≡ old.path.items ++ node.function ∷ []
  of_number =
      path_with nodes number some next.within parent node (next.has_parent (number - 1) node one) next.after_parent
      ∙ ap (λ (p : List ℕ). p ++ (get_or nodes (number - 1) node).function ∷ []) of_parent
      ∙ ap (λ (x : WalkNode). old.path.items ++ x.function ∷ []) (sym is)

  of_spot : path_after front spot ≡ old.path.items ++ node.function ∷ []
  of_spot =
      ap (λ (k : ℕ). take k front ++ node.function ∷ []) deep
      ∙ ap (λ (p : List ℕ). p ++ node.function ∷ []) (sym h.front)

  of_both : path_after front spot ≡ path_of number nodes
  of_both = of_spot ∙ sym of_number

  of_last : last_path [] new.nodes.items ≡ new.path.items
  of_last =
      ap (last_path []) spot_is ∙ last_parts [] old.nodes.items (spot ∷ []) ∙ of_spot ∙ sym path

  stands : MayFollow front spot
  stands =
      let within = h.within in record {
        within = omega (arith, deep, within);
        rising = λ less.
            let below = h.rising 0 (omega (arith, deep, less)) in
            let at = ap (λ (k : ℕ). get_or front k 0) deep in
            let over = next.rising (number - 1) node one in
            let own = ap (λ (x : WalkNode). x.function) is in
            omega (arith, below, at, over, own);
      }

  arrives : 0 < spot.calls
  arrives =
      let there = next.some (number - 1) node one in
      let own = ap (λ (x : WalkNode). x.calls) is in
      omega (arith, there, own)

  is_preorder : IsPreorderBuilder (set nodes (number - 1) emptied) new
  is_preorder =
      let last = ap length of_last in record {
        tree = subst (λ (ss : List CallNode). IsTree ss) (sym spot_is) (stand_of_parts [] old.nodes.items (spot ∷ []) h.tree (stands, tt));
        some = subst (λ (ss : List CallNode). HasCalls ss) (sym spot_is) (some_more old.nodes.items spot h.some arrives);
        trail = subst (λ (p : List ℕ). IsTrail (set nodes (number - 1) emptied) p new.trail.items) (sym path)
            (subst (λ (t : List ℕ). IsTrail (set nodes (number - 1) emptied) (old.path.items ++ node.function ∷ []) t) (sym trail)
            (trail_stays nodes (set nodes (number - 1) emptied) (old.path.items ++ node.function ∷ []) (old.trail.items ++ number ∷ [])
            (trail_longer nodes old.path.items old.trail.items node.function number h.trail next.within of_number)
            (record {
              long = length-set nodes (number - 1) emptied;
              paths = paths_with nodes number some next.within emptied node same;
            })));
        within = omega (arith, last);
        front = sym (take_all (length new.path.items) new.path.items (omega arith))
            ∙ ap (take (length new.path.items)) (sym of_last);
        rising = λ d less. absurd (omega (arith, last, less));
      }

  -- what it weighed is in the spot
  moved_weight : (w : List ℕ → WalkNode → ℕ) (before more : ℕ) → more ≡ w (path_of number nodes) node
      → w (path_of number nodes) emptied ≡ 0
      → before + more + weighted_sum w (set nodes (number - 1) emptied) ≡ before + weighted_sum w nodes
  moved_weight w before more is_more none =
      let all = weighed_with nodes number some next.within w emptied node same in
      let here = ap (w (path_of number nodes)) is in
      omega (arith, all, here, is_more, none)

  pub moved : MovesCounts nodes old (set nodes (number - 1) (record { parent = node.parent; function = node.function; calls = 0; steps = 0 })) new
  moved = record {
    is_preorder = is_preorder;
    calls = λ at.
        let extended_block = ap (spots.calls_at at) spot_is ∙ counted_more calls_of_node at [] old.nodes.items spot in
        let kept = moved_weight (λ p n. cond (bytes_eq p at) n.calls 0) (spots.calls_at at old.nodes.items)
        (cond (bytes_eq (path_after front spot) at) spot.calls 0)
        (ap (λ (p : List ℕ). cond (bytes_eq p at) node.calls 0) of_both) (no_weight (bytes_eq (path_of number nodes) at)) in
        omega (arith, extended_block, kept);
    steps = λ at.
        let extended_block = ap (spots.steps_at at) spot_is ∙ counted_more steps_of at [] old.nodes.items spot in
        let kept = moved_weight (λ p n. cond (bytes_eq p at) n.steps 0) (spots.steps_at at old.nodes.items)
        (cond (bytes_eq (path_after front spot) at) spot.steps 0)
        (ap (λ (p : List ℕ). cond (bytes_eq p at) node.steps 0) of_both) (no_weight (bytes_eq (path_of number nodes) at)) in
        omega (arith, extended_block, kept);
    own = λ f.
        let extended_block = ap (spots.own_steps_of f) spot_is ∙ sum_more (λ s. steps_if (s.function == f) s.steps) old.nodes.items spot in
        let kept = moved_weight (λ p n. steps_if (n.function == f) n.steps) (spots.own_steps_of f old.nodes.items)
        (steps_if (node.function == f) node.steps) refl (no_weight (node.function == f)) in
        omega (arith, extended_block, kept);
    all_steps = (let extended_block = ap spots.all_steps spot_is ∙ sum_more steps_of old.nodes.items spot in
        let kept = moved_weight (λ p n. n.steps) (spots.all_steps old.nodes.items) node.steps refl refl in
        omega (arith, extended_block, kept));
  }

-- nothing moves on the way back
pub went_back : (nodes : List WalkNode) (old new : PreorderBuilder) → ReturnsToParent nodes old new → MovesCounts nodes old nodes new
went_back nodes old new h = record {
  is_preorder = h.is_preorder;
  calls = λ path. ap (λ (ss : List CallNode). spots.calls_at path ss + calls_at path nodes) h.nodes;
  steps = λ path. ap (λ (ss : List CallNode). spots.steps_at path ss + steps_at path nodes) h.nodes;
  own = λ f. ap (λ (ss : List CallNode). spots.own_steps_of f ss + own_steps_of f nodes) h.nodes;
  all_steps = ap (λ (ss : List CallNode). spots.all_steps ss + all_steps nodes) h.nodes;
}

-- ---- from the first on

pub no_spot : (nodes : List WalkNode) (builder : PreorderBuilder) → builder.path.items ≡ [] → builder.trail.items ≡ 0 ∷ [] → builder.nodes.items ≡ []
    → IsPreorderBuilder nodes builder
no_spot nodes builder path trail spots_are =
    let long = ap length path in
    let one = ap length trail in
    let none = ap (λ (ss : List CallNode). length (last_path [] ss)) spots_are in
    let first = λ (k d : ℕ) (at : k ≡ 0). ap (λ (xs : List ℕ). get_or xs k d) trail ∙ ap (λ (j : ℕ). get_or (0 ∷ []) j d) at in record {
      tree = subst (λ (ss : List CallNode). IsTree ss) (sym spots_are) tt;
      some = subst (λ (ss : List CallNode). HasCalls ss) (sym spots_are) tt;
      trail = record {
        long = omega (arith, long, one);
        within = λ k d less. let e = first k d (omega (arith, less, one)) in omega (arith, e);
        paths = λ k d less.
            let at : k ≡ 0 = omega (arith, less, one) in
            ap (λ (n : ℕ). path_of n nodes) (first k d at)
            ∙ first_paths ([] ∷ []) nodes 0 [] (omega arith)
            ∙ sym (ap (λ (j : ℕ). take j builder.path.items) at);
      };
      within = omega (arith, long);
      front = path ∙ sym (ap (λ (j : ℕ). take j (last_path [] builder.nodes.items)) long);
      rising = λ d less. absurd (omega (arith, less, none));
    }

-- what is left of nodes, and what is in spots, is what was counted
pub record Conserves (start remaining : List WalkNode) (builder : PreorderBuilder) : Type 0 where
  pub standing : IsPreorderBuilder remaining builder
  pub calls : (path : List ℕ) → spots.calls_at path builder.nodes.items + calls_at path remaining ≡ calls_at path start
  pub steps : (path : List ℕ) → spots.steps_at path builder.nodes.items + steps_at path remaining ≡ steps_at path start
  pub own : (f : ℕ) → spots.own_steps_of f builder.nodes.items + own_steps_of f remaining ≡ own_steps_of f start
  pub all_steps : spots.all_steps builder.nodes.items + all_steps remaining ≡ all_steps start

pub none_moved : (nodes : List WalkNode) (builder : PreorderBuilder) → IsPreorderBuilder nodes builder → builder.nodes.items ≡ [] → Conserves nodes nodes builder
none_moved nodes builder h none = record {
  standing = h;
  calls = λ path. let e = ap (λ (ss : List CallNode). spots.calls_at path ss) none in omega (arith, e);
  steps = λ path. let e = ap (λ (ss : List CallNode). spots.steps_at path ss) none in omega (arith, e);
  own = λ f. let e = ap (λ (ss : List CallNode). spots.own_steps_of f ss) none in omega (arith, e);
  all_steps = (let e = ap (λ (ss : List CallNode). spots.all_steps ss) none in omega (arith, e));
}

pub one_moved : (start before after : List WalkNode) (old new : PreorderBuilder) → Conserves start before old → MovesCounts before old after new
    → Conserves start after new
one_moved start before after old new h m = record {
  standing = m.is_preorder;
  calls = λ path. m.calls path ∙ h.calls path;
  steps = λ path. m.steps path ∙ h.steps path;
  own = λ f. m.own f ∙ h.own f;
  all_steps = m.all_steps ∙ h.all_steps;
}

-- ---- at the end

no_counts : (n : WalkNode) → is_empty n ≡ true → (n.calls ≡ 0) × (n.steps ≡ 0)
no_counts n h =
    let both = and_parts (n.calls == 0) (n.steps == 0) h in
    (eqb-true n.calls 0 both.0, eqb-true n.steps 0 both.1)

empty_weight : (w : List ℕ → WalkNode → ℕ) (ps : List (List ℕ)) (ns : List WalkNode)
    → ((p : List ℕ) (n : WalkNode) → (n.calls ≡ 0) × (n.steps ≡ 0) → w p n ≡ 0) → list_all is_empty ns ≡ true
    → weighted_sum_after w ps ns ≡ 0
empty_weight w ps [] none h = refl
empty_weight w ps (n ∷ ns) none h =
    let parts = and_parts (is_empty n) (list_all is_empty ns) h in
    let here = none (path_below ps n) n (no_counts n parts.0) in
    let rest = empty_weight w (ps ++ path_below ps n ∷ []) ns none parts.1 in
    omega (arith, here, rest)

zero_if : (b : Bool) (n : ℕ) → n ≡ 0 → cond b n 0 ≡ 0
zero_if true n h = h
zero_if false n h = refl

pub all_moved : (start remaining : List WalkNode) (builder : PreorderBuilder) → Conserves start remaining builder → list_all is_empty remaining ≡ true
    → ArePreorderOf start builder.nodes.items
all_moved start remaining builder h empty = record {
  tree = h.standing.tree;
  some = h.standing.some;
  calls = λ path.
      let all = h.calls path in
      let none = empty_weight (λ p n. cond (bytes_eq p path) n.calls 0) ([] ∷ []) remaining
      (λ p n e. zero_if (bytes_eq p path) n.calls e.0) empty in
      omega (arith, all, none);
  steps = λ path.
      let all = h.steps path in
      let none = empty_weight (λ p n. cond (bytes_eq p path) n.steps 0) ([] ∷ []) remaining
      (λ p n e. zero_if (bytes_eq p path) n.steps e.1) empty in
      omega (arith, all, none);
  own = λ f.
      let all = h.own f in
      let none = empty_weight (λ p n. steps_if (n.function == f) n.steps) ([] ∷ []) remaining
      (λ p n e. zero_if (n.function == f) n.steps e.1) empty in
      omega (arith, all, none);
  all_steps = (let all = h.all_steps in
      let none = empty_weight (λ p n. n.steps) ([] ∷ []) remaining (λ p n e. e.1) empty in
      omega (arith, all, none));
}
