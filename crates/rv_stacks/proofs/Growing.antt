-- Nodes that grow.
use Rattle.std.proofs.Common.{◌≡◌, ◌∙◌, ◌==◌, ◌+◌, ◌-◌, ◌<◌, ◌≤◌, ℕ, zero, suc, Bool, true, false, cond, List, [], ◌∷◌, ◌++◌, length, take, get_or, set, refl, sym, ap, subst, arith, length-append, length-set, inl, inr}
use Rattle.std.proofs.lemmas.Bool.{cases_lt}
use Rattle.std.proofs.lemmas.List.{get_or_append_left, take-append-le, take_all}
use Rattle.std.proofs.Math.Seq.{get_or-append_seam}
use Rattle.std.specs.Str.{bytes_eq}
use Rattle.rv_count_tables.specs.Trees.{ends_with, one_if, steps_if}
use Rattle.rv_stacks.specs.declared.node.WalkNode.{WalkNode}
use Rattle.rv_stacks.specs.declared.walk.Walk.{Walk}
use Rattle.rv_stacks.specs.Nodes.{all_calls, all_steps, calls_at, own_steps_of, path_below, paths_appended, path_of, paths_of, steps_at, weighted_sum, EntersOnce, HasChild, IsChild, KeepsPaths, StepsMore, times_if}
use Rattle.rv_stacks.specs.Walks.{Enters, IsTrail, ReturnsTo}
use Rattle.rv_stacks.proofs.Nodes.{first_paths, long_paths, path_with, paths_more, paths_with, weighed_more, weighed_with, IsOfSame}

-- what stands at number 0
abbrev root : List (List ℕ)
root = [] ∷ []

-- ---- a child

abbrev nothing : WalkNode
nothing = record { parent = 0; function = 0; calls = 0; steps = 0 }

pub found_child : (parent function number : ℕ) (nodes : List WalkNode) → IsChild parent function number nodes
    → HasChild parent function nodes number nodes
found_child parent function number nodes h =
    let after_parent = h.after_parent in
    let some : 0 < number = omega (arith, after_parent) in
    let one : number - 1 + 1 ≡ number = omega (arith, some) in record {
      some = some;
      within = h.within;
      longer = omega arith;
      path = path_with nodes number some h.within parent nothing (h.has_parent (number - 1) nothing one) after_parent
          ∙ ap (λ (f : ℕ). path_of parent nodes ++ f ∷ []) (h.own (number - 1) nothing one);
      paths = λ k less. refl;
      calls = λ path. refl;
      steps = λ path. refl;
      own = λ f. refl;
      all_calls = refl;
      all_steps = refl;
    }

no_weight : (b : Bool) → ◌≡◌ {A = ℕ} (cond b 0 0) 0
no_weight true = refl
no_weight false = refl

module _ (parent function : ℕ) (nodes : List WalkNode) (within : parent < length nodes + 1) where
  abbrev fresh : WalkNode
  fresh = record { parent = parent; function = function; calls = 0; steps = 0 }

  abbrev extended_block : List WalkNode
  extended_block = nodes ++ fresh ∷ []

  same_weight : (w : List ℕ → WalkNode → ℕ) → ((p : List ℕ) → w p fresh ≡ 0) → weighted_sum w extended_block ≡ weighted_sum w nodes
  same_weight w none =
      let more = weighed_more w ([] ∷ []) nodes fresh in
      let zero = none (path_below (paths_of nodes) fresh) in
      omega (arith, more, zero)

  pub made_child : (number : ℕ) → number ≡ length nodes + 1
      → HasChild parent function nodes number (nodes ++ record { parent = parent; function = function; calls = 0; steps = 0 } ∷ [])
  made_child number is =
      let one = length-append nodes (fresh ∷ []) in
      let long = long_paths ([] ∷ []) nodes in
      let at : number ≡ length (paths_of nodes) = omega (arith, is, long) in record {
        some = omega (arith, is);
        within = omega (arith, is, one);
        longer = omega (arith, one);
        path = ap (λ (k : ℕ). path_of k extended_block) at
            ∙ ap (λ (ps : List (List ℕ)). get_or ps (length (paths_of nodes)) []) (paths_more ([] ∷ []) nodes fresh)
            ∙ get_or-append_seam (paths_of nodes) (path_below (paths_of nodes) fresh) [] [];
        paths = λ k less.
            ap (λ (ps : List (List ℕ)). get_or ps k []) (paths_more ([] ∷ []) nodes fresh)
            ∙ get_or_append_left (paths_of nodes) (path_below (paths_of nodes) fresh ∷ []) [] k (omega (arith, less, long));
        calls = λ path. same_weight (λ p n. cond (bytes_eq p path) n.calls 0) (λ p. no_weight (bytes_eq p path));
        steps = λ path. same_weight (λ p n. cond (bytes_eq p path) n.steps 0) (λ p. no_weight (bytes_eq p path));
        own = λ f. same_weight (λ p n. steps_if (n.function == f) n.steps) (λ p. no_weight (function == f));
        all_calls = same_weight (λ p n. n.calls) (λ p. refl);
        all_steps = same_weight (λ p n. n.steps) (λ p. refl);
      }

-- ---- one more in a node

sum_if : (t : Bool) (n m : ℕ) → cond t (n + m) 0 ≡ cond t n 0 + cond t m 0
sum_if true n m = refl
sum_if false n m = omega arith

pub last_of : (f : ℕ) (xs : List ℕ) (x : ℕ) → ends_with f (xs ++ x ∷ []) ≡ (x == f)
last_of f [] x = refl
last_of f (y ∷ []) x = refl
last_of f (y ∷ z ∷ zs) x = last_of f (z ∷ zs) x

-- the functions of a node end with its own
ends_at : (ps : List (List ℕ)) (ns : List WalkNode) (index : ℕ) (d : WalkNode) (f : ℕ) → index < length ns
    → ends_with f (get_or (paths_appended ps ns) (length ps + index) []) ≡ ((get_or ns index d).function == f)
ends_at ps [] index d f within = absurd (omega (arith, within))
ends_at ps (m ∷ ms) zero d f within =
    let longer = ps ++ path_below ps m ∷ [] in
    let one = length-append ps (path_below ps m ∷ []) in
    let at : length ps + 0 ≡ length ps = omega arith in
    ap (λ (k : ℕ). ends_with f (get_or (paths_appended longer ms) k [])) at
    ∙ ap (ends_with f) (first_paths longer ms (length ps) [] (omega (arith, one))
    ∙ get_or-append_seam ps (path_below ps m) [] [])
    ∙ last_of f (get_or ps m.parent []) m.function
ends_at ps (m ∷ ms) (suc index) d f within =
    let longer = ps ++ path_below ps m ∷ [] in
    let one = length-append ps (path_below ps m ∷ []) in
    let at : length ps + suc index ≡ length longer + index = omega (arith, one) in
    ap (λ (k : ℕ). ends_with f (get_or (paths_appended longer ms) k [])) at
    ∙ ends_at longer ms index d f (omega (arith, within))

module _ (nodes : List WalkNode) (number : ℕ) (some : 0 < number) (within : number < length nodes + 1) (old : WalkNode)
    (is : old ≡ get_or nodes (number - 1) old) where
  same_of : (n : WalkNode) → n.parent ≡ old.parent → n.function ≡ old.function → IsOfSame n (get_or nodes (number - 1) old)
  same_of n above own = record {
    parent = above ∙ ap (λ (x : WalkNode). x.parent) is;
    function = own ∙ ap (λ (x : WalkNode). x.function) is;
  }

  kept : (n : WalkNode) → n.parent ≡ old.parent → n.function ≡ old.function → KeepsPaths nodes (set nodes (number - 1) n)
  kept n above own = record {
    long = length-set nodes (number - 1) n;
    paths = paths_with nodes number some within n old (same_of n above own);
  }

  -- so much more
  more : (w : List ℕ → WalkNode → ℕ) (n : WalkNode) (m : ℕ) → n.parent ≡ old.parent → n.function ≡ old.function
      → w (path_of number nodes) n ≡ w (path_of number nodes) old + m
      → weighted_sum w (set nodes (number - 1) n) ≡ weighted_sum w nodes + m
  more w n m above own grows =
      let all = weighed_with nodes number some within w n old (same_of n above own) in
      let here = ap (w (path_of number nodes)) is in
      omega (arith, all, here, grows)

  same : (w : List ℕ → WalkNode → ℕ) (n : WalkNode) → n.parent ≡ old.parent → n.function ≡ old.function
      → w (path_of number nodes) n ≡ w (path_of number nodes) old → weighted_sum w (set nodes (number - 1) n) ≡ weighted_sum w nodes
  same w n above own stays =
      let all = more w n 0 above own (omega (arith, stays)) in omega (arith, all)

  ends_here : (f : ℕ) → ends_with f (path_of number nodes) ≡ (old.function == f)
  ends_here f =
      let at : number ≡ length root + (number - 1) = omega (arith, some) in
      ap (λ (k : ℕ). ends_with f (path_of k nodes)) at
      ∙ ends_at root nodes (number - 1) old f (omega (arith, some, within))
      ∙ ap (λ (x : WalkNode). x.function == f) (sym is)

  pub arrived_once : EntersOnce number nodes
      (set nodes (number - 1) (record { parent = old.parent; function = old.function; calls = old.calls + 1; steps = old.steps }))
  arrived_once =
      let n : WalkNode = record { parent = old.parent; function = old.function; calls = old.calls + 1; steps = old.steps } in record {
        kept = kept n refl refl;
        calls = λ path. more (λ p x. cond (bytes_eq p path) x.calls 0) n (one_if (bytes_eq (path_of number nodes) path)) refl refl
            (sum_if (bytes_eq (path_of number nodes) path) old.calls 1);
        steps = λ path. same (λ p x. cond (bytes_eq p path) x.steps 0) n refl refl refl;
        own = λ f. same (λ p x. steps_if (x.function == f) x.steps) n refl refl refl;
        all_calls = more (λ p x. x.calls) n 1 refl refl refl;
        all_steps = same (λ p x. x.steps) n refl refl refl;
      }

  pub stepped_more : (k : ℕ) → StepsMore k number nodes
      (set nodes (number - 1) (record { parent = old.parent; function = old.function; calls = old.calls; steps = old.steps + k }))
  stepped_more k =
      let n : WalkNode = record { parent = old.parent; function = old.function; calls = old.calls; steps = old.steps + k } in record {
        kept = kept n refl refl;
        calls = λ path. same (λ p x. cond (bytes_eq p path) x.calls 0) n refl refl refl;
        steps = λ path. more (λ p x. cond (bytes_eq p path) x.steps 0) n (times_if k (bytes_eq (path_of number nodes) path)) refl refl
            (sum_if (bytes_eq (path_of number nodes) path) old.steps k);
        own = λ f. more (λ p x. steps_if (x.function == f) x.steps) n (times_if k (old.function == f)) refl refl
            (sum_if (old.function == f) old.steps k)
            ∙ ap (λ (b : Bool). own_steps_of f nodes + times_if k b) (sym (ends_here f));
        all_calls = same (λ p x. x.calls) n refl refl refl;
        all_steps = more (λ p x. x.steps) n k refl refl refl;
      }

-- ---- trails

-- nodes that keep the functions of the first
pub trail_kept : (old new : List WalkNode) (path trail : List ℕ) → IsTrail old path trail → length old ≤ length new
    → ((k : ℕ) → k < length old + 1 → path_of k new ≡ path_of k old) → IsTrail new path trail
trail_kept old new path trail h longer paths = record {
  long = h.long;
  within = λ k d less. let there = h.within k d less in omega (arith, there, longer);
  paths = λ k d less. paths (get_or trail k d) (h.within k d less) ∙ h.paths k d less;
}

pub trail_stays : (old new : List WalkNode) (path trail : List ℕ) → IsTrail old path trail → KeepsPaths old new → IsTrail new path trail
trail_stays old new path trail h keeps =
    let same = keeps.long in
    trail_kept old new path trail h (omega (arith, same)) (λ k less. ap (λ (ps : List (List ℕ)). get_or ps k []) keeps.paths)

-- a node more
pub trail_longer : (nodes : List WalkNode) (path trail : List ℕ) (function number : ℕ) → IsTrail nodes path trail
    → number < length nodes + 1 → path_of number nodes ≡ path ++ function ∷ []
    → IsTrail nodes (path ++ function ∷ []) (trail ++ number ∷ [])
trail_longer nodes path trail function number h within here =
    let long = h.long in
    let one = length-append path (function ∷ []) in
    let two = length-append trail (number ∷ []) in
    let at = λ (k d : ℕ) (less : k < length trail). get_or_append_left trail (number ∷ []) d k less in
    let end = λ (k d : ℕ) (is : k ≡ length trail). ap (λ (n : ℕ). get_or (trail ++ number ∷ []) n d) is
    ∙ get_or-append_seam trail number [] d in record {
      long = omega (arith, long, one, two);
      within = λ k d less. elim (cases_lt k (length trail)) [
        | inl low ↦ let e = at k d low in let b = h.within k d low in omega (arith, e, b)
        | inr high ↦ let e = end k d (omega (arith, less, two, high)) in omega (arith, e, within)
      ];
      paths = λ k d less. elim (cases_lt k (length trail)) [
        | inl low ↦ ap (λ (n : ℕ). path_of n nodes) (at k d low) ∙ h.paths k d low
            ∙ sym (take-append-le k path (function ∷ []) (omega (arith, low, long)))
        | inr high ↦ ap (λ (n : ℕ). path_of n nodes) (end k d (omega (arith, less, two, high))) ∙ here
            ∙ sym (take_all k (path ++ function ∷ []) (omega (arith, one, long, high)))
      ];
    }

-- ---- a walk

-- the node where a walk is
pub some_number : (w : Walk) (number : ℕ) → path_of number w.nodes.items ≡ w.path.items → 0 < length w.path.items → 0 < number
some_number w zero here some =
    let first = first_paths root w.nodes.items 0 [] (omega arith) in
    let none = ap length (sym first ∙ here) in
    absurd (omega (arith, none, some))
some_number w (suc number) here some = omega arith

pub arrived : (old mid new : Walk) (parent depth function number : ℕ) (made : List WalkNode) → ReturnsTo depth old mid
    → path_of parent mid.nodes.items ≡ mid.path.items
    → HasChild parent function mid.nodes.items number made → EntersOnce number made new.nodes.items
    → new.path.items ≡ mid.path.items ++ function ∷ [] → new.trail.items ≡ mid.trail.items ++ number ∷ []
    → Enters (take depth old.path.items ++ function ∷ []) old new
arrived old mid new parent depth function number made back here child once path trail =
    let own = function ∷ [] in
    let there : path_of number made ≡ mid.path.items ++ own = child.path ∙ ap (λ (p : List ℕ). p ++ own) here in
    let now : path_of number made ≡ take depth old.path.items ++ own = there ∙ ap (λ (p : List ℕ). p ++ own) back.path in
    let kept_trail = trail_kept mid.nodes.items made mid.path.items mid.trail.items back.walk.trail child.longer child.paths in
    let grown_trail = trail_stays made new.nodes.items (mid.path.items ++ own) (mid.trail.items ++ number ∷ [])
    (trail_longer made mid.path.items mid.trail.items function number kept_trail child.within there) once.kept in record {
      walk = record {
        trail = subst (λ (p : List ℕ). IsTrail new.nodes.items p new.trail.items) (sym path)
            (subst (λ (t : List ℕ). IsTrail new.nodes.items (mid.path.items ++ own) t) (sym trail) grown_trail);
      };
      path = path ∙ ap (λ (p : List ℕ). p ++ own) back.path;
      calls = λ at.
          let a = once.calls at in
          let b = child.calls at in
          let c = ap (calls_at at) back.nodes in
          let d = ap (λ (p : List ℕ). one_if (bytes_eq p at)) now in
          omega (arith, a, b, c, d);
      steps = λ at. once.steps at ∙ child.steps at ∙ ap (steps_at at) back.nodes;
      own = λ f. once.own f ∙ child.own f ∙ ap (own_steps_of f) back.nodes;
      all_calls = (let a = once.all_calls in
          let b = child.all_calls in
          let c = ap all_calls back.nodes in
          omega (arith, a, b, c));
      all_steps = once.all_steps ∙ child.all_steps ∙ ap all_steps back.nodes;
    }
