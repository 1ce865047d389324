-- Names of functions that are added and looked up, and the functions of spots.
use Rattle.std.proofs.Common.{◌≡◌, ◌∙◌, ◌==◌, ◌+◌, ◌<◌, ◌≤◌, ℕ, suc, Bool, true, false, cond, List, [], ◌∷◌, ◌++◌, Option, Some, None, length, option_map, map, refl, sym, ap, subst, arith, inl, inr}
use Rattle.std.proofs.lemmas.Bool.{cases_Bool, eqb-true, false≢true}
use Rattle.std.proofs.lemmas.Bool.Decides.{nat_tests}
use Rattle.std.specs.Prelude.{◌||◌, nat_lt}
use Rattle.std.specs.List.{AllByRecursion, find, flat_map, insert, prefix_len}
use Rattle.std.specs.Str.{IsUtf8}
use Rattle.rv_count_tables.specs.declared.table.FunctionName.{FunctionName}
use Rattle.rv_count_tables.specs.declared.table.NamedCallNode.{NamedCallNode}
use Rattle.rv_count_tables.specs.Lines.{lacks}
use Rattle.rv_count_tables.specs.Table.{has_name, name_at, name_of, functions_increase_from, min_text_of, AreValidNames, AreNamesOf, IsValidName, IsValidNamedNode, IsValidNode}
use Rattle.rv_count_tables.specs.Text.{line_of_node, name_or_empty, named, node_line}
use Rattle.rv_count_tables.specs.ReadSteps.{function_name, inserted, with_name, with_names, AgreesWithName}
use Rattle.rv_count_tables.proofs.AddingNames.{behind, low, none_below, one_list_of_names, rises}
use Rattle.rv_call_tree.specs.Profiles.{ends_some_path}
use Rattle.rv_call_tree.specs.declared.call_node.CallNode.{CallNode}

-- ---- names that a list has

picked : (b : Bool) (n : FunctionName) (o : Option FunctionName)
    → option_map (λ (m : FunctionName). m.name) (cond b (Some n) o) ≡ cond b (Some n.name) (option_map (λ (m : FunctionName). m.name) o)
picked true n o = refl
picked false n o = refl

pub found : (f : ℕ) (ns : List FunctionName)
    → option_map (λ (n : FunctionName). n.name) (find (λ (n : FunctionName). n.function == f) ns) ≡ name_of f ns
found f [] = refl
found f (n ∷ ns) = picked (n.function == f) n (find (λ (m : FunctionName). m.function == f) ns)
    ∙ ap (λ (o : Option (List ℕ)). cond (n.function == f) (Some n.name) o) (found f ns)

pub not_named : (o : Option (List ℕ)) → has_name o ≡ false → o ≡ None
not_named None h = refl
not_named (Some name) h = absurd (false≢true (sym h))

pub named_as : (o : Option (List ℕ)) → has_name o ≡ true → o ≡ Some (name_or_empty o)
named_as None h = absurd (false≢true h)
named_as (Some name) h = refl

-- the first name is the name, where each function stands once
pub first_is : (ns : List FunctionName) (lowest f : ℕ) → functions_increase_from lowest ns ≡ true → name_of f ns ≡ name_at f ns
first_is [] lowest f h = refl
first_is (n ∷ ns) lowest f h = elim (cases_Bool (n.function == f)) [
  | inl t ↦
      let e : n.function ≡ f = eqb-true n.function f t in
      ap (λ (b : Bool). cond b (Some n.name) (name_of f ns)) t
      ∙ sym (ap (λ (b : Bool). min_text_of (cond b (Some n.name) None) (name_at f ns)) t
      ∙ ap (min_text_of (Some n.name)) (none_below ns (n.function + 1) f (behind lowest n ns h) (omega (arith, e))))
  | inr t ↦
      ap (λ (b : Bool). cond b (Some n.name) (name_of f ns)) t
      ∙ first_is ns (n.function + 1) f (behind lowest n ns h)
      ∙ sym (ap (λ (b : Bool). min_text_of (cond b (Some n.name) None) (name_at f ns)) t)
]

abbrev FitsName : List ℕ → Type 0
FitsName name = (lacks 10 name ≡ true) × IsUtf8 name

picked_fits : (b : Bool) (name : List ℕ) (o : Option (List ℕ)) → FitsName name → (b ≡ false → FitsName (name_or_empty o))
    → FitsName (name_or_empty (cond b (Some name) o))
picked_fits true name o h k = h
picked_fits false name o h k = k refl

named_is_name : (ns : List FunctionName) (f : ℕ) → AllByRecursion IsValidName ns → has_name (name_of f ns) ≡ true
    → FitsName (name_or_empty (name_of f ns))
named_is_name [] f h some = absurd (false≢true some)
named_is_name (n ∷ ns) f h some = picked_fits (n.function == f) n.name (name_of f ns) (h.0.name, h.0.text)
    (λ t. named_is_name ns f h.1 (sym (ap (λ (b : Bool). has_name (cond b (Some n.name) (name_of f ns))) t) ∙ some))

pub named_fits : (ns : List FunctionName) (s : CallNode) → AllByRecursion IsValidName ns → IsValidNode s
    → has_name (name_of s.function ns) ≡ true → IsValidNamedNode (named ns s)
named_fits ns s h k some =
    let p = named_is_name ns s.function h some in
    record { node = k; name = p.0; text = p.1 }

-- ---- the functions of spots

same : (k : ℕ) → (k == k) ≡ true
same k = grind arith

pub first_is_last : (s : CallNode) (ss : List CallNode) → ends_some_path s.function (s ∷ ss) ≡ true
first_is_last s ss = ap (λ (b : Bool). b || ends_some_path s.function ss) (same s.function)

or_true : (b c : Bool) → c ≡ true → (b || c) ≡ true
or_true true c h = refl
or_true false c h = h

pub further : (f : ℕ) (s : CallNode) (ss : List CallNode) → ends_some_path f ss ≡ true → ends_some_path f (s ∷ ss) ≡ true
further f s ss h = or_true (s.function == f) (ends_some_path f ss) h

either_more : (a b c : Bool) → (a || (b || c)) ≡ ((a || b) || c)
either_more true b c = refl
either_more false b c = refl

or_false : (b : Bool) → (b || false) ≡ b
or_false true = refl
or_false false = refl

pub last_of_more : (f : ℕ) (ss : List CallNode) (s : CallNode) → ends_some_path f (ss ++ s ∷ []) ≡ (ends_some_path f ss || (s.function == f))
last_of_more f [] s = or_false (s.function == f)
last_of_more f (t ∷ ts) s = ap (λ (b : Bool). (t.function == f) || b) (last_of_more f ts s)
    ∙ either_more (t.function == f) (ends_some_path f ts) (s.function == f)

-- ---- one name more

one_more : (n : ℕ) → 1 + n ≡ suc n
one_more n = omega arith

within_if : (b : Bool) (n m : ℕ) → n ≤ m → cond b (1 + n) 0 ≤ suc m
within_if true n m h = omega (arith, h)
within_if false n m h = omega arith

pub prefix_within : {X : Type 0} (test : X → Bool) (xs : List X) → prefix_len test xs ≤ length xs
prefix_within test [] = omega arith
prefix_within test (x ∷ xs) = within_if (test x) (prefix_len test xs) (length xs) (prefix_within test xs)

pub behind_lower : (n m : FunctionName) (ms : List FunctionName) → nat_lt m.function n.function ≡ true
    → inserted n (m ∷ ms) ≡ m ∷ inserted n ms
behind_lower n m ms t =
    let q = prefix_len (λ (x : FunctionName). nat_lt x.function n.function) ms in
    ap (λ (b : Bool). insert (m ∷ ms) (cond b (1 + q) 0) n) t ∙ ap (λ (k : ℕ). insert (m ∷ ms) k n) (one_more q)

pub ahead_of_higher : (n m : FunctionName) (ms : List FunctionName) → nat_lt m.function n.function ≡ false
    → inserted n (m ∷ ms) ≡ n ∷ m ∷ ms
ahead_of_higher n m ms t =
    let q = prefix_len (λ (x : FunctionName). nat_lt x.function n.function) ms in
    ap (λ (b : Bool). insert (m ∷ ms) (cond b (1 + q) 0) n) t

-- a function without a name is not the first, and has none behind it
pub not_first : (n m : FunctionName) (ms : List FunctionName) → has_name (name_of n.function (m ∷ ms)) ≡ false
    → ((m.function == n.function) ≡ false) × (has_name (name_of n.function ms) ≡ false)
not_first n m ms h = elim (cases_Bool (m.function == n.function)) [
  | inl t ↦ absurd (false≢true (sym h ∙ ap (λ (b : Bool). has_name (cond b (Some m.name) (name_of n.function ms))) t))
  | inr t ↦ (t, sym (ap (λ (b : Bool). has_name (cond b (Some m.name) (name_of n.function ms))) t) ∙ h)
]

other : (m n f : ℕ) → (m == n) ≡ false → (m == f) ≡ true → (n == f) ≡ false
other m n f h k = grind (arith, nat_tests)

swapped : (m n f : ℕ) (p q : List ℕ) (o : Option (List ℕ)) → (m == n) ≡ false
    → cond (m == f) (Some p) (cond (n == f) (Some q) o) ≡ cond (n == f) (Some q) (cond (m == f) (Some p) o)
swapped m n f p q o h = elim (cases_Bool (m == f)) [
  | inl t ↦
      ap (λ (b : Bool). cond b (Some p) (cond (n == f) (Some q) o)) t
      ∙ sym (ap (λ (b : Bool). cond b (Some q) (cond (m == f) (Some p) o)) (other m n f h t)
      ∙ ap (λ (b : Bool). cond b (Some p) o) t)
  | inr t ↦
      ap (λ (b : Bool). cond b (Some p) (cond (n == f) (Some q) o)) t
      ∙ sym (ap (λ (b : Bool). cond (n == f) (Some q) (cond b (Some p) o)) t)
]

name_inserted : (n : FunctionName) (ns : List FunctionName) (f : ℕ) → has_name (name_of n.function ns) ≡ false
    → name_of f (inserted n ns) ≡ cond (n.function == f) (Some n.name) (name_of f ns)
name_inserted n [] f h = refl
name_inserted n (m ∷ ms) f h = elim (cases_Bool (nat_lt m.function n.function)) [
  | inl t ↦
      let p = not_first n m ms h in
      ap (name_of f) (behind_lower n m ms t)
      ∙ ap (λ (o : Option (List ℕ)). cond (m.function == f) (Some m.name) o) (name_inserted n ms f p.1)
      ∙ swapped m.function n.function f m.name n.name (name_of f ms) p.0
  | inr t ↦ ap (name_of f) (ahead_of_higher n m ms t)
]

each_inserted : (n : FunctionName) (ns : List FunctionName) → IsValidName n → AllByRecursion IsValidName ns
    → AllByRecursion IsValidName (inserted n ns)
each_inserted n [] h k = (h, tt)
each_inserted n (m ∷ ms) h k = elim (cases_Bool (nat_lt m.function n.function)) [
  | inl t ↦ subst (λ (ns : List FunctionName). AllByRecursion IsValidName ns) (sym (behind_lower n m ms t)) (k.0, each_inserted n ms h k.1)
  | inr t ↦ subst (λ (ns : List FunctionName). AllByRecursion IsValidName ns) (sym (ahead_of_higher n m ms t)) (h, k)
]

none_rises : (lowest : ℕ) → functions_increase_from lowest [] ≡ true
unfolding functions_increase_from
none_rises lowest = refl

is_lower : (m n : ℕ) → nat_lt m n ≡ true → m < n
is_lower m n h = grind (arith, nat_tests)

is_higher : (m n : ℕ) → nat_lt m n ≡ false → (m == n) ≡ false → n + 1 ≤ m
is_higher m n h k = grind (arith, nat_tests)

rise_inserted : (n : FunctionName) (ns : List FunctionName) (lowest : ℕ) → functions_increase_from lowest ns ≡ true → lowest ≤ n.function
    → has_name (name_of n.function ns) ≡ false → functions_increase_from lowest (inserted n ns) ≡ true
rise_inserted n [] lowest h under none = rises lowest n [] under (none_rises (n.function + 1))
rise_inserted n (m ∷ ms) lowest h under none =
    let p = not_first n m ms none in
    let l = low lowest m ms h in
    let b = behind lowest m ms h in elim (cases_Bool (nat_lt m.function n.function)) [
      | inl t ↦
          let k = is_lower m.function n.function t in
          ap (functions_increase_from lowest) (behind_lower n m ms t)
          ∙ rises lowest m (inserted n ms) l (rise_inserted n ms (m.function + 1) b (omega (arith, k)) p.1)
      | inr t ↦
          ap (functions_increase_from lowest) (ahead_of_higher n m ms t)
          ∙ rises lowest n (m ∷ ms) under (rises (n.function + 1) m ms (is_higher m.function n.function t p.0) b)
    ]

pub are_more : (n : FunctionName) (ns : List FunctionName) → IsValidName n → AreValidNames ns → AreValidNames (with_name n ns)
are_more n ns h k = elim (cases_Bool (has_name (name_of n.function ns))) [
  | inl t ↦ subst AreValidNames (sym (ap (λ (b : Bool). cond b ns (inserted n ns)) t)) k
  | inr t ↦ subst AreValidNames (sym (ap (λ (b : Bool). cond b ns (inserted n ns)) t)) (record {
    each = each_inserted n ns h k.each;
    rising = rise_inserted n ns 0 k.rising (omega arith) t;
  })
]

agreed : (name : List ℕ) (o : Option (List ℕ)) → AgreesWithName name o → has_name o ≡ true → o ≡ Some name
agreed name None h some = absurd (false≢true some)
agreed name (Some other) h some = ap Some (sym h)

-- what a list then says of a function
pub name_with : (n : FunctionName) (ns : List FunctionName) (f : ℕ) → AgreesWithName n.name (name_of n.function ns)
    → name_of f (with_name n ns) ≡ cond (n.function == f) (Some n.name) (name_of f ns)
name_with n ns f h = elim (cases_Bool (has_name (name_of n.function ns))) [
  | inl t ↦
      ap (λ (b : Bool). name_of f (cond b ns (inserted n ns))) t ∙ elim (cases_Bool (n.function == f)) [
        | inl e ↦
            ap (λ (g : ℕ). name_of g ns) (sym (eqb-true n.function f e)) ∙ agreed n.name (name_of n.function ns) h t
            ∙ sym (ap (λ (b : Bool). cond b (Some n.name) (name_of f ns)) e)
        | inr e ↦ sym (ap (λ (b : Bool). cond b (Some n.name) (name_of f ns)) e)
      ]
  | inr t ↦ ap (λ (b : Bool). name_of f (cond b ns (inserted n ns))) t ∙ name_inserted n ns f t
]

-- ---- names that agree with those of a list

abbrev pub AgreeWithAll : List FunctionName → List FunctionName → Type 0
AgreeWithAll ns ms = (f : ℕ) → AgreesWithName (name_or_empty (name_of f ns)) (name_of f ms)

agree_if : (b : Bool) (text name : List ℕ) (o : Option (List ℕ)) → (b ≡ true → text ≡ name) → AgreesWithName text o
    → AgreesWithName text (cond b (Some name) o)
agree_if true text name o h k = h refl
agree_if false text name o h k = k

pub agree_more : (ns ms : List FunctionName) (s : CallNode) → AgreeWithAll ns ms
    → AgreeWithAll ns (with_name (function_name (named ns s)) ms)
agree_more ns ms s h f =
    subst (AgreesWithName (name_or_empty (name_of f ns))) (sym (name_with (function_name (named ns s)) ms f (h s.function)))
    (agree_if (s.function == f) (name_or_empty (name_of f ns)) (name_or_empty (name_of s.function ns)) (name_of f ms)
    (λ t. ap (λ (g : ℕ). name_or_empty (name_of g ns)) (sym (eqb-true s.function f t))) (h f))

-- ---- lists of names that say the same of spots

abbrev head_name : List NamedCallNode → List ℕ
head_name [] = []
head_name (n ∷ ns) = n.name

abbrev tail_of : List NamedCallNode → List NamedCallNode
tail_of [] = []
tail_of (n ∷ ns) = ns

same_said : (ns ms : List FunctionName) (ss : List CallNode) (f : ℕ) → map (named ns) ss ≡ map (named ms) ss
    → ends_some_path f ss ≡ true → name_or_empty (name_of f ns) ≡ name_or_empty (name_of f ms)
same_said ns ms [] f e some = absurd (false≢true some)
same_said ns ms (s ∷ ss) f e some = elim (cases_Bool (s.function == f)) [
  | inl t ↦
      let g = eqb-true s.function f t in
      ap (λ (k : ℕ). name_or_empty (name_of k ns)) (sym g) ∙ ap head_name e ∙ ap (λ (k : ℕ). name_or_empty (name_of k ms)) g
  | inr t ↦ same_said ns ms ss f (ap tail_of e) (sym (ap (λ (b : Bool). b || ends_some_path f ss) t) ∙ some)
]

same_of_both : (ns ms : List FunctionName) (ss : List CallNode) (f : ℕ) → AreNamesOf ss ns → AreNamesOf ss ms
    → map (named ns) ss ≡ map (named ms) ss → name_of f ns ≡ name_of f ms
same_of_both ns ms ss f h k e = elim (cases_Bool (ends_some_path f ss)) [
  | inl t ↦
      named_as (name_of f ns) (h f ∙ t) ∙ ap Some (same_said ns ms ss f e t) ∙ sym (named_as (name_of f ms) (k f ∙ t))
  | inr t ↦ not_named (name_of f ns) (h f ∙ t) ∙ sym (not_named (name_of f ms) (k f ∙ t))
]

pub one_list_of_first_names : (ns ms : List FunctionName) (ss : List CallNode) → AreValidNames ns → AreValidNames ms → AreNamesOf ss ns
    → AreNamesOf ss ms → map (named ns) ss ≡ map (named ms) ss → ns ≡ ms
one_list_of_first_names ns ms ss h k p q e = one_list_of_names ns ms h k
    (λ f. sym (first_is ns 0 f h.rising) ∙ same_of_both ns ms ss f p q e ∙ first_is ms 0 f k.rising)

-- ---- a spot more, by its name

pub text_of_named : (ns : List FunctionName) (ss : List CallNode) → flat_map (line_of_node ns) ss ≡ flat_map node_line (map (named ns) ss)
text_of_named ns [] = refl
text_of_named ns (s ∷ ss) = ap (λ (t : List ℕ). line_of_node ns s ++ t) (text_of_named ns ss)

same_named : (ns ms : List FunctionName) (ss : List CallNode) → ((f : ℕ) → ends_some_path f ss ≡ true → name_of f ns ≡ name_of f ms)
    → map (named ns) ss ≡ map (named ms) ss
same_named ns ms [] h = refl
same_named ns ms (s ∷ ss) h =
    let e = h s.function (first_is_last s ss) in
    let others = same_named ns ms ss (λ f some. h f (further f s ss some)) in
    λ i. record { node = s; name = name_or_empty (e i) } ∷ others i

more_named : (ns : List FunctionName) (ss : List CallNode) (s : CallNode) → map (named ns) (ss ++ s ∷ []) ≡ map (named ns) ss ++ named ns s ∷ []
more_named ns [] s = refl
more_named ns (t ∷ ts) s = ap (λ (x : List NamedCallNode). named ns t ∷ x) (more_named ns ts s)

more_names : (ns : List FunctionName) (xs : List NamedCallNode) (x : NamedCallNode)
    → with_names ns (xs ++ x ∷ []) ≡ with_name (function_name x) (with_names ns xs)
more_names ns [] x = refl
more_names ns (y ∷ ys) x = more_names (with_name (function_name y) ns) ys x

-- the names of some spots, which are those that these bring
pub record AreNamesSoFar (ss : List CallNode) (ns : List FunctionName) : Type 0 where
  pub names : AreValidNames ns
  pub names_of_nodes : AreNamesOf ss ns
  pub known : ns ≡ with_names [] (map (named ns) ss)

pub no_names_so_far : AreNamesSoFar [] []
no_names_so_far = record {
  names = record { each = tt; rising = none_rises 0 };
  names_of_nodes = λ f. refl;
  known = refl;
}

module _ (ss : List CallNode) (names : List FunctionName) (x : NamedCallNode) (fits : IsValidNamedNode x)
    (agrees : AgreesWithName x.name (name_of x.node.function names)) where
  says : (f : ℕ) → name_of f (with_name (function_name x) names) ≡ cond (x.node.function == f) (Some x.name) (name_of f names)
  says f = name_with (function_name x) names f agrees

  pub it_has_its_name : named (with_name (function_name x) names) x.node ≡ x
  it_has_its_name =
      let e = says x.node.function ∙ ap (λ (b : Bool). cond b (Some x.name) (name_of x.node.function names)) (same x.node.function) in
      λ i. record { node = x.node; name = name_or_empty (e i) }

  others_keep : AreNamesOf ss names → (f : ℕ) → ends_some_path f ss ≡ true → name_of f (with_name (function_name x) names) ≡ name_of f names
  others_keep h f some = says f ∙ elim (cases_Bool (x.node.function == f)) [
    | inl t ↦
        let e = eqb-true x.node.function f t in
        let have : has_name (name_of x.node.function names) ≡ true = ap (λ (g : ℕ). has_name (name_of g names)) e ∙ h f ∙ some in
        ap (λ (b : Bool). cond b (Some x.name) (name_of f names)) t ∙ sym (agreed x.name (name_of x.node.function names) agrees have)
        ∙ ap (λ (g : ℕ). name_of g names) e
    | inr t ↦ ap (λ (b : Bool). cond b (Some x.name) (name_of f names)) t
  ]

  pub others_are_named : AreNamesOf ss names → map (named (with_name (function_name x) names)) ss ≡ map (named names) ss
  others_are_named h = same_named (with_name (function_name x) names) names ss (others_keep h)

  has_either : (b c : Bool) (o : Option (List ℕ)) → has_name o ≡ c → has_name (cond b (Some x.name) o) ≡ (c || b)
  has_either true true o h = refl
  has_either true false o h = refl
  has_either false c o h = h ∙ sym (or_false c)

  pub names_so_far : AreNamesSoFar ss names → AreNamesSoFar (ss ++ x.node ∷ []) (with_name (function_name x) names)
  names_so_far h = record {
    names = are_more (function_name x) names
        (record { function = fits.node.function; name = fits.name; text = fits.text }) h.names;
    names_of_nodes = λ f. ap has_name (says f)
        ∙ has_either (x.node.function == f) (ends_some_path f ss) (name_of f names) (h.names_of_nodes f)
        ∙ sym (last_of_more f ss x.node);
    known = ap (with_name (function_name x)) (h.known ∙ ap (with_names []) (sym (others_are_named h.names_of_nodes)))
        ∙ sym (ap (with_names []) (more_named (with_name (function_name x) names) ss x.node ∙ ap (λ (n : NamedCallNode). map (named (with_name (function_name x) names)) ss ++ n ∷ []) it_has_its_name)
        ∙ more_names [] (map (named (with_name (function_name x) names)) ss) x);
  }
