-- An index of functions, one more at a time, and the lines of spots by it.
use Rattle.std.proofs.Common.{◌≡◌, ◌∙◌, ◌==◌, ◌++◌, ℕ, Bool, true, false, cond, List, [], ◌∷◌, Option, Some, None, is_some, option_map, append_assoc, codes, refl, sym, ap, arith, inl, inr}
use Rattle.std.proofs.lemmas.Bool.{cases_Bool, eqb-true, false≢true}
use Rattle.std.proofs.lemmas.Bool.Decides.{nat_tests}
use Rattle.std.specs.BTreeMap.{BTreeMap, Updates, get}
use Rattle.std.specs.Fmt.{decimal}
use Rattle.std.specs.List.{flat_map}
use Rattle.std.specs.Ordering.{is_eq, nat_cmp}
use Rattle.rv_count_tables.specs.declared.table.FunctionName.{FunctionName}
use Rattle.rv_count_tables.specs.declared.text.FunctionFields.{FunctionFields}
use Rattle.rv_count_tables.specs.ParsedNodes.{line_by_index, line_by_fields, node_line_with_digits, fields_of_function, fields_with_digits, IsIndexOf}
use Rattle.rv_count_tables.specs.Table.{name_of}
use Rattle.rv_count_tables.specs.Text.{line_of_node, name_or_empty, node_line, fields_of_node}
use Rattle.rv_call_tree.specs.declared.call_node.CallNode.{CallNode}

-- a name behind others is that of a function without another
abbrev or_else : Option (List ℕ) → Option (List ℕ) → Option (List ℕ)
or_else None other = other
or_else (Some name) other = Some name

or_nothing : (o : Option (List ℕ)) → or_else o None ≡ o
or_nothing None = refl
or_nothing (Some name) = refl

some_first : (o other : Option (List ℕ)) → is_some o ≡ true → or_else o other ≡ o
some_first None other h = absurd (false≢true h)
some_first (Some name) other h = refl

nothing : (o : Option (List ℕ)) → is_some o ≡ false → o ≡ None
nothing None h = refl
nothing (Some name) h = absurd (false≢true (sym h))

some_words : (o : Option (List ℕ)) (f : ℕ) → is_some (option_map (fields_of_function f) o) ≡ is_some o
some_words None f = refl
some_words (Some name) f = refl

chosen_else : (b : Bool) (name : List ℕ) (o other : Option (List ℕ))
    → cond b (Some name) (or_else o other) ≡ or_else (cond b (Some name) o) other
chosen_else true name o other = refl
chosen_else false name o other = refl

name_of_more : (f : ℕ) (ns : List FunctionName) (n : FunctionName)
    → name_of f (ns ++ n ∷ []) ≡ or_else (name_of f ns) (cond (n.function == f) (Some n.name) None)
name_of_more f [] n = refl
name_of_more f (m ∷ ms) n =
    ap (λ (o : Option (List ℕ)). cond (m.function == f) (Some m.name) o) (name_of_more f ms n)
    ∙ chosen_else (m.function == f) m.name (name_of f ms) (cond (n.function == f) (Some n.name) None)

other_name : (f : ℕ) (ns : List FunctionName) (n : FunctionName) → (n.function == f) ≡ false
    → name_of f (ns ++ n ∷ []) ≡ name_of f ns
other_name f ns n t =
    name_of_more f ns n ∙ ap (λ (b : Bool). or_else (name_of f ns) (cond b (Some n.name) None)) t ∙ or_nothing (name_of f ns)

earlier_name : (f : ℕ) (ns : List FunctionName) (n : FunctionName) → is_some (name_of f ns) ≡ true
    → name_of f (ns ++ n ∷ []) ≡ name_of f ns
earlier_name f ns n h = name_of_more f ns n ∙ some_first (name_of f ns) (cond (n.function == f) (Some n.name) None) h

first_name : (f : ℕ) (ns : List FunctionName) (n : FunctionName) → (n.function == f) ≡ true → name_of f ns ≡ None
    → name_of f (ns ++ n ∷ []) ≡ Some n.name
first_name f ns n t none =
    name_of_more f ns n
    ∙ ap (λ (o : Option (List ℕ)). or_else o (cond (n.function == f) (Some n.name) None)) none
    ∙ ap (λ (b : Bool). cond b (Some n.name) None) t

same_key : (f g : ℕ) → is_eq (nat_cmp f g) ≡ (f == g)
same_key f g = grind (arith, nat_tests)

-- whether a function is in an index is whether it has a name
is_named : (index : BTreeMap ℕ FunctionFields) (ns : List FunctionName) (f g : ℕ) → IsIndexOf ns index → (f == g) ≡ true
    → is_some (name_of g ns) ≡ is_some (get nat_cmp index f)
is_named index ns f g is t =
    sym (some_words (name_of g ns) g) ∙ ap is_some (sym (is g))
    ∙ ap (λ (h : ℕ). is_some (get nat_cmp index h)) (sym (eqb-true f g t))

pub no_index : (index : BTreeMap ℕ FunctionFields) → index.entries ≡ [] → IsIndexOf [] index
no_index index none f = rw none refl

-- a function that has a name keeps it
pub index_keeps : (index : BTreeMap ℕ FunctionFields) (ns : List FunctionName) (n : FunctionName) → IsIndexOf ns index
    → is_some (get nat_cmp index n.function) ≡ true → IsIndexOf (ns ++ n ∷ []) index
index_keeps index ns n is some f = is f ∙ ap (option_map (fields_of_function f)) (sym (elim (cases_Bool (n.function == f)) [
  | inl t ↦ earlier_name f ns n (is_named index ns n.function f is t ∙ some)
  | inr t ↦ other_name f ns n t
]))

-- one that has none is given it
pub index_more : (index more : BTreeMap ℕ FunctionFields) (ns : List FunctionName) (n : FunctionName) (x : FunctionFields)
    → IsIndexOf ns index → is_some (get nat_cmp index n.function) ≡ false → Updates nat_cmp index more n.function (Some x)
    → x ≡ fields_of_function n.function n.name → IsIndexOf (ns ++ n ∷ []) more
index_more index more ns n x is none put words f =
    put.0 f ∙ ap (λ (b : Bool). cond b (Some x) (get nat_cmp index f)) (same_key n.function f)
    ∙ elim (cases_Bool (n.function == f)) [
      | inl t ↦
          ap (λ (b : Bool). cond b (Some x) (get nat_cmp index f)) t
          ∙ ap Some (words ∙ ap (λ (g : ℕ). fields_of_function g n.name) (eqb-true n.function f t))
          ∙ ap (option_map (fields_of_function f))
          (sym (first_name f ns n t (nothing (name_of f ns) (is_named index ns n.function f is t ∙ none))))
      | inr t ↦
          ap (λ (b : Bool). cond b (Some x) (get nat_cmp index f)) t ∙ is f
          ∙ ap (option_map (fields_of_function f)) (sym (other_name f ns n t))
    ]

-- ---- the line of a spot

-- by the words of a function it is that of its name
line_by_name : (o : Option (List ℕ)) (s : CallNode)
    → line_by_fields (option_map (fields_of_function s.function) o) s ≡ node_line (record { node = s; name = name_or_empty o })
unfolding node_line_with_digits fields_with_digits node_line fields_of_node
line_by_name None s = refl
line_by_name (Some name) s = refl

line_is : (index : BTreeMap ℕ FunctionFields) (ns : List FunctionName) (s : CallNode) → IsIndexOf ns index
    → line_by_index index s ≡ line_of_node ns s
unfolding line_by_index
line_is index ns s is =
    ap (λ (o : Option FunctionFields). line_by_fields o s) (is s.function) ∙ line_by_name (name_of s.function ns) s

pub lines_are : (index : BTreeMap ℕ FunctionFields) (ns : List FunctionName) (ss : List CallNode) → IsIndexOf ns index
    → flat_map (line_by_index index) ss ≡ flat_map (line_of_node ns) ss
lines_are index ns [] is = refl
lines_are index ns (s ∷ ss) is = (λ i. line_is index ns s is i ++ lines_are index ns ss is i)

-- ---- the words of a line, one behind the other

next_word : (text more whole words word : List ℕ) → more ≡ text ++ words → whole ≡ more ++ codes " " ++ word
    → whole ≡ text ++ (words ++ codes " " ++ word)
next_word text more whole words word e f =
    f ∙ ap (λ (t : List ℕ). t ++ codes " " ++ word) e ∙ ap (λ (t : List ℕ). t ++ word) (append_assoc text words (codes " "))
    ∙ append_assoc text (words ++ codes " ") word

pub words_pushed : (text first second third fourth fifth digits : List ℕ) (s : CallNode) → first ≡ text ++ codes "spot"
    → second ≡ first ++ codes " " ++ decimal s.depth → third ≡ second ++ codes " " ++ digits
    → fourth ≡ third ++ codes " " ++ decimal s.calls → fifth ≡ fourth ++ codes " " ++ decimal s.steps
    → fifth ≡ text ++ fields_with_digits digits s
unfolding fields_with_digits
words_pushed text first second third fourth fifth digits s e1 e2 e3 e4 e5 =
    let depth = next_word text first second (codes "spot") (decimal s.depth) e1 e2 in
    let function = next_word text second third _ digits depth e3 in
    let calls = next_word text third fourth _ (decimal s.calls) function e4 in
    next_word text fourth fifth _ (decimal s.steps) calls e5
