-- Where a function stands first, and what its subtrees tell of it.
use Rattle.std.proofs.Common.{◌≡◌, ◌∙◌, ◌==◌, ◌+◌, ◌<◌, ◌≤◌, ◌||◌, ℕ, zero, suc, Bool, true, false, cond, List, [], ◌∷◌, ◌++◌, length, take, drop, get_or, Option, Some, None, is_some, refl, sym, ap, subst, arith, inl, inr, length-append, leb}
use Rattle.std.specs.List.{sum_by}
use Rattle.std.proofs.lemmas.List.Sums.{sum_by-cons}
use Rattle.std.proofs.lemmas.Bool.{cases_lt, le-leb, lt-leb, or_parts}
use Rattle.std.proofs.lemmas.List.{drop_more, take-take, take-append-le, take_at, length-take-le, get_or_append_left, get_or-take}
use Rattle.std.proofs.Math.Seq.{get_or-append_seam}
use Rattle.rv_call_tree.specs.declared.call_node.CallNode.{CallNode}
use Rattle.rv_call_tree.specs.declared.subtree.Subtree.{Subtree}
use Rattle.rv_call_tree.specs.Profiles.{has_function, inclusive_steps_after}
use Rattle.rv_call_tree.specs.Subtrees.{below, with_root_function, subtree, subtrees_from, subtrees_of_function}
use Rattle.rv_call_tree.specs.Trees.{all_steps, sum_over_nodes, path_after, steps_if, IsTree, AreInPreorder, MayFollow}
use Rattle.rv_call_tree.proofs.Tests.{equal_by, equal_test, less_test, not_less_test}

-- ---- which lists have a function

or_moved : (a b c d : Bool) → d ≡ (b || c) → (a || d) ≡ ((a || b) || c)
or_moved true b c d h = refl
or_moved false b c d h = h

or_second : (a b : Bool) → b ≡ true → (a || b) ≡ true
or_second true b h = refl
or_second false b h = h

any_parts : (f : ℕ) (xs ys : List ℕ) → has_function f (xs ++ ys) ≡ (has_function f xs || has_function f ys)
any_parts f [] ys = refl
any_parts f (x ∷ xs) ys = or_moved (x == f) (has_function f xs) (has_function f ys) (has_function f (xs ++ ys)) (any_parts f xs ys)

-- the first functions have none that the list has not
none_first : (f n : ℕ) (xs : List ℕ) → has_function f xs ≡ false → has_function f (take n xs) ≡ false
none_first f zero xs h = refl
none_first f (suc n) [] h = refl
none_first f (suc n) (x ∷ xs) h =
    let p = or_parts (x == f) (has_function f xs) h in
    ap (λ (b : Bool). b || has_function f (take n xs)) p.0 ∙ none_first f n xs p.1

-- it stands at a depth
has_there : (f n : ℕ) (xs : List ℕ) → n < length xs → get_or xs n 0 ≡ f → has_function f xs ≡ true
has_there f n [] within is = absurd (omega arith)
has_there f zero (x ∷ xs) within is = ap (λ (b : Bool). b || has_function f xs) (equal_test x f is)
has_there f (suc n) (x ∷ xs) within is = or_second (x == f) (has_function f xs) (has_there f n xs (omega arith) is)

-- ---- where it stands first

pub record FirstAt (f : ℕ) (path : List ℕ) (depth : ℕ) : Type 0 where
  pub within : depth < length path
  pub there : get_or path depth 0 ≡ f
  pub first : has_function f (take depth path) ≡ false

abbrev pub IsOutermost : ℕ → List ℕ → Option ℕ → Type 0
IsOutermost f path None = has_function f path ≡ false
IsOutermost f path (Some depth) = FirstAt f path depth

pub tells : (f : ℕ) (path : List ℕ) (o : Option ℕ) → IsOutermost f path o → has_function f path ≡ is_some o
tells f path None h = h
tells f path (Some depth) h = has_there f depth path h.within h.there

-- none among the functions in front, so the last one decides
last_decides : (f : ℕ) (front : List ℕ) (s : CallNode) → MayFollow front s → has_function f (take s.depth front) ≡ false
    → (b : Bool) → (s.function == f) ≡ b → IsOutermost f (path_after front s) (cond b (Some s.depth) None)
last_decides f front s stands none false is =
    any_parts f (take s.depth front) (s.function ∷ [])
    ∙ (λ i. none i || (is i || false))
last_decides f front s stands none true is =
    let kept = length-take-le s.depth front stands.within in
    let all = length-append (take s.depth front) (s.function ∷ []) in record {
      within = omega (arith, kept, all);
      there = ap (λ (n : ℕ). get_or (path_after front s) n 0) (sym kept)
          ∙ get_or-append_seam (take s.depth front) s.function [] 0 ∙ equal_by s.function f is;
      first = ap (has_function f) (take_at (take s.depth front) (s.function ∷ []) s.depth kept) ∙ none;
    }

kept_there : (f : ℕ) (front : List ℕ) (s : CallNode) (depth : ℕ) → MayFollow front s → FirstAt f front depth
    → depth < s.depth → FirstAt f (path_after front s) depth
kept_there f front s depth stands h deep =
    let own = s.function ∷ [] in
    let kept = length-take-le s.depth front stands.within in
    let all = length-append (take s.depth front) own in
    let inside : depth < length (take s.depth front) = omega (arith, kept) in record {
      within = omega (arith, kept, all);
      there = get_or_append_left (take s.depth front) own 0 depth inside ∙ get_or-take s.depth front depth 0 deep ∙ h.there;
      first = ap (has_function f) (take-append-le depth (take s.depth front) own (omega (arith, kept))
          ∙ take-take depth s.depth front (omega arith)) ∙ h.first;
    }

-- given up, it is none of the functions in front
gone : (f : ℕ) (front : List ℕ) (s : CallNode) (depth : ℕ) → FirstAt f front depth → s.depth ≤ depth
    → has_function f (take s.depth front) ≡ false
gone f front s depth h low =
    ap (has_function f) (sym (take-take s.depth depth front low)) ∙ none_first f s.depth (take depth front) h.first

-- ---- the steps of the outermost subtrees

-- of subtrees of one function by their places: of each that does not begin in the one counted before it
abbrev pub inclusive_from : ℕ → List Subtree → ℕ
inclusive_from end [] = 0
inclusive_from end (t ∷ ts) = cond (leb end t.index) (t.inclusive + inclusive_from t.end ts) (inclusive_from end ts)

-- what is left of the subtree of a spot that is so deep, where it ends, and the steps there
abbrev EndsAt : Option ℕ → ℕ → List CallNode → ℕ → Type 0
EndsAt None place ss end = end ≤ place
EndsAt (Some depth) place ss end = end ≡ place + length (below depth ss)

abbrev steps_left : Option ℕ → List CallNode → ℕ
steps_left None ss = 0
steps_left (Some depth) ss = all_steps (below depth ss)

-- the subtrees tell all steps but those that are left
abbrev Tells : ℕ → ℕ → List ℕ → List CallNode → Type 0
Tells f place front ss = (o : Option ℕ) (end : ℕ) → IsOutermost f front o → EndsAt o place ss end
    → inclusive_steps_after f front ss ≡ steps_left o ss + inclusive_from end (with_root_function f (subtrees_from place ss))

node_of_first : (f place : ℕ) (s : CallNode) (ss : List CallNode) (b : Bool) → (s.function == f) ≡ b → with_root_function f (subtrees_from place (s ∷ ss))
    ≡ cond b (subtree place s ss ∷ with_root_function f (subtrees_from (place + 1) ss)) (with_root_function f (subtrees_from (place + 1) ss))
node_of_first f place s ss b is =
    ap (λ (t : Bool). cond t (subtree place s ss ∷ with_root_function f (subtrees_from (place + 1) ss)) (with_root_function f (subtrees_from (place + 1) ss))) is

-- none of the functions in front counts the spot
first_outside : (f place end : ℕ) (front : List ℕ) (s : CallNode) (ss : List CallNode) → MayFollow front s
    → has_function f (take s.depth front) ≡ false → end ≤ place → Tells f (place + 1) (path_after front s) ss
    → (b : Bool) → (s.function == f) ≡ b
    → inclusive_steps_after f front (s ∷ ss) ≡ inclusive_from end (with_root_function f (subtrees_from place (s ∷ ss)))
first_outside f place end front s ss stands none past rest false is =
    let outermost = last_decides f front s stands none false is in
    let here = ap (λ (b : Bool). steps_if b s.steps) (tells f (path_after front s) None outermost) in
    let more = rest None end outermost (omega (arith, past)) in
    let of = ap (inclusive_from end) (node_of_first f place s ss false is) in
    omega (arith, here, more, of)
first_outside f place end front s ss stands none past rest true is =
    let outermost = last_decides f front s stands none true is in
    let here = ap (λ (b : Bool). steps_if b s.steps) (tells f (path_after front s) (Some s.depth) outermost) in
    let more = rest (Some s.depth) (subtree place s ss).end outermost refl in
    let of = ap (inclusive_from end) (node_of_first f place s ss true is) in
    let t = subtree place s ss in
    let ts = with_root_function f (subtrees_from (place + 1) ss) in
    let counts = ap (λ (b : Bool). cond b (t.inclusive + inclusive_from t.end ts) (inclusive_from end ts)) (le-leb end place past) in
    omega (arith, here, more, of, counts)

-- the spot is below one that was counted with it
first_inside : (f place end depth : ℕ) (front : List ℕ) (s : CallNode) (ss : List CallNode) → MayFollow front s → FirstAt f front depth
    → depth < s.depth → end ≡ place + length (s ∷ below depth ss) → Tells f (place + 1) (path_after front s) ss
    → (b : Bool) → (s.function == f) ≡ b → inclusive_steps_after f front (s ∷ ss)
    ≡ all_steps (s ∷ below depth ss) + inclusive_from end (with_root_function f (subtrees_from place (s ∷ ss)))
first_inside f place end depth front s ss stands h deep ends rest b is =
    let outermost = kept_there f front s depth stands h deep in
    let here = ap (λ (t : Bool). steps_if t s.steps) (tells f (path_after front s) (Some depth) outermost) in
    let more = rest (Some depth) end outermost (omega (arith, ends)) in
    let of = ap (inclusive_from end) (node_of_first f place s ss b is) ∙ skipped b in
    omega (arith, here, more, of)
  where
    t : Subtree
    t = subtree place s ss

    ts : List Subtree
    ts = with_root_function f (subtrees_from (place + 1) ss)

    begun : leb end place ≡ false
    begun = lt-leb end place (omega (arith, ends))

    skipped : (b : Bool) → inclusive_from end (cond b (t ∷ ts) ts) ≡ inclusive_from end ts
    skipped true = ap (λ (c : Bool). cond c (t.inclusive + inclusive_from t.end ts) (inclusive_from end ts)) begun
    skipped false = refl

told_from : (f place : ℕ) (front : List ℕ) (ss : List CallNode) → AreInPreorder front ss → Tells f place front ss
told_from f place front [] stand None end h ends = refl
told_from f place front [] stand (Some depth) end h ends = refl
told_from f place front (s ∷ ss) stand None end h ends =
    let all = first_outside f place end front s ss stand.0 (none_first f s.depth front h) ends
    (told_from f (place + 1) (path_after front s) ss stand.1) (s.function == f) refl in
    omega (arith, all)
told_from f place front (s ∷ ss) stand (Some depth) end h ends =
    let rest = told_from f (place + 1) (path_after front s) ss stand.1 in
    let P : Bool → Type 0 = λ b. end ≡ place + length (cond b (s ∷ below depth ss) []) → inclusive_steps_after f front (s ∷ ss)
    ≡ all_steps (cond b (s ∷ below depth ss) []) + inclusive_from end (with_root_function f (subtrees_from place (s ∷ ss))) in
    elim (cases_lt depth s.depth) [
      | inl deep ↦ subst P (sym (less_test depth s.depth deep))
          (λ e. first_inside f place end depth front s ss stand.0 h deep e rest (s.function == f) refl) ends
      | inr low ↦ subst P (sym (not_less_test depth s.depth low))
          (λ e. let all = first_outside f place end front s ss stand.0 (gone f front s depth h low) (omega (arith, e)) rest
          (s.function == f) refl in
          omega (arith, all)) ends
    ]

pub inclusive_told : (f : ℕ) (nodes : List CallNode) → IsTree nodes
    → inclusive_steps_after f [] nodes ≡ inclusive_from 0 (subtrees_of_function f nodes)
inclusive_told f nodes tree = let all = told_from f 0 [] nodes tree None 0 refl (omega arith) in omega (arith, all)

-- ---- what is counted in the spots of a function themselves

one_more : (f place : ℕ) (count : CallNode → ℕ) (field : Subtree → ℕ) (s : CallNode) (ss : List CallNode) → field (subtree place s ss) ≡ count s
    → sum_over_nodes (λ (s : CallNode). steps_if (s.function == f) (count s)) ss ≡ sum_by field (with_root_function f (subtrees_from (place + 1) ss))
    → (b : Bool) → (s.function == f) ≡ b → sum_over_nodes (λ (s : CallNode). steps_if (s.function == f) (count s)) (s ∷ ss)
    ≡ sum_by field (with_root_function f (subtrees_from place (s ∷ ss)))
one_more f place count field s ss own rest true is =
    let counts = ap (λ (b : Bool). steps_if b (count s)) is in
    let of = ap (sum_by field) (node_of_first f place s ss true is)
    ∙ sum_by-cons field (subtree place s ss) (with_root_function f (subtrees_from (place + 1) ss)) in
    omega (arith, rest, counts, of, own)
one_more f place count field s ss own rest false is =
    let counts = ap (λ (b : Bool). steps_if b (count s)) is in
    let of = ap (sum_by field) (node_of_first f place s ss false is) in
    omega (arith, rest, counts, of)

pub told_of_each : (f place : ℕ) (count : CallNode → ℕ) (field : Subtree → ℕ)
    → ((k : ℕ) (s : CallNode) (ss : List CallNode) → field (subtree k s ss) ≡ count s) → (ss : List CallNode)
    → sum_over_nodes (λ (s : CallNode). steps_if (s.function == f) (count s)) ss ≡ sum_by field (with_root_function f (subtrees_from place ss))
told_of_each f place count field same [] = refl
told_of_each f place count field same (s ∷ ss) =
    one_more f place count field s ss (same place s ss) (told_of_each f (place + 1) count field same ss) (s.function == f) refl

-- ---- from subtree to subtree

pub sum_step : (field : Subtree → ℕ) (run all : List Subtree) (k : ℕ) (d : Subtree) → run ≡ all → k < length run
    → sum_by field (drop k all) ≡ field (get_or run k d) + sum_by field (drop (k + 1) all)
sum_step field run all k d is within =
    ap (λ (ts : List Subtree). sum_by field (drop k ts)) (sym is)
    ∙ ap (sum_by field) (drop_more run k d within)
    ∙ sum_by-cons field (get_or run k d) (drop (k + 1) run)
    ∙ ap (λ (ts : List Subtree). field (get_or run k d) + sum_by field (drop (k + 1) ts)) is

pub inclusive_step : (run all : List Subtree) (k end : ℕ) (d : Subtree) → run ≡ all → k < length run → end ≤ (get_or run k d).index
    → inclusive_from end (drop k all) ≡ (get_or run k d).inclusive + inclusive_from (get_or run k d).end (drop (k + 1) all)
inclusive_step run all k end d is within past =
    let t = get_or run k d in
    let rest = drop (k + 1) run in
    ap (λ (ts : List Subtree). inclusive_from end (drop k ts)) (sym is)
    ∙ ap (inclusive_from end) (drop_more run k d within)
    ∙ ap (λ (b : Bool). cond b (t.inclusive + inclusive_from t.end rest) (inclusive_from end rest)) (le-leb end t.index past)
    ∙ ap (λ (ts : List Subtree). t.inclusive + inclusive_from t.end (drop (k + 1) ts)) is

-- ---- sums that fit

if_at_most : (b : Bool) (n : ℕ) → steps_if b n ≤ n
if_at_most true n = omega arith
if_at_most false n = omega arith

-- of the spots of a function
pub own_fits : (f : ℕ) (count : CallNode → ℕ) (nodes : List CallNode)
    → sum_over_nodes (λ (s : CallNode). steps_if (s.function == f) (count s)) nodes ≤ sum_over_nodes count nodes
own_fits f count [] = omega arith
own_fits f count (s ∷ ss) =
    let here = if_at_most (s.function == f) (count s) in let rest = own_fits f count ss in omega (arith, here, rest)

pub inclusive_fits : (f : ℕ) (front : List ℕ) (nodes : List CallNode) → inclusive_steps_after f front nodes ≤ all_steps nodes
inclusive_fits f front [] = omega arith
inclusive_fits f front (s ∷ ss) =
    let here = if_at_most (has_function f (path_after front s)) s.steps in
    let rest = inclusive_fits f (path_after front s) ss in
    omega (arith, here, rest)
