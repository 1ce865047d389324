-- The functions of a sum of spots are those of both, and so are the names of a sum of names.
use Rattle.std.proofs.Common.{◌≡◌, ◌∙◌, ◌==◌, ◌+◌, ◌<◌, ◌⊎◌, ℕ, zero, suc, Bool, true, false, cond, List, [], ◌∷◌, ◌++◌, Option, Some, None, refl, sym, ap, arith, inl, inr, take}
use Rattle.std.proofs.lemmas.Bool.{cases_Bool, false≢true}
use Rattle.std.specs.Cmp.Lexicographic.{bytes_decides}
use Rattle.std.specs.Prelude.{◌||◌}
use Rattle.std.specs.Str.{bytes_eq}
use Rattle.rv_count_tables.specs.declared.table.FunctionName.{FunctionName}
use Rattle.rv_count_tables.specs.declared.table.ImageCounts.{ImageCounts}
use Rattle.rv_count_tables.specs.Sum.{IsSumOfNames}
use Rattle.rv_count_tables.specs.Table.{has_name, min_text_of, name_at, AreNamesOf, IsValidImage}
use Rattle.rv_count_tables.proofs.AddingImages.{all_come_to}
use Rattle.rv_count_tables.proofs.NamesOfSpots.{first_is, further}
use Rattle.rv_call_tree.specs.Profiles.{ends_some_path}
use Rattle.rv_call_tree.specs.declared.call_node.CallNode.{CallNode}
use Rattle.rv_call_tree.specs.Sums.{IsSumOfCallTrees}
use Rattle.rv_call_tree.specs.Trees.{calls_at, calls_of_node, sum_over_path, ends_with, path_after, HasCalls}

-- ---- a function is one of spots where a run came to a list that ends with it

ends_with_last : (f g : ℕ) (path : List ℕ) → ends_with f (path ++ g ∷ []) ≡ (g == f)
ends_with_last f g [] = refl
ends_with_last f g (h ∷ []) = refl
ends_with_last f g (h ∷ k ∷ ks) = ends_with_last f g (k ∷ ks)

itself : (path : List ℕ) → bytes_eq path path ≡ true
itself path = (bytes_decides path path).1 refl

here_or_further : (b : Bool) (n m : ℕ) → 0 < m → 0 < cond b n 0 + m
here_or_further b n m h = omega (arith, h)

here_counts : (b : Bool) (n m : ℕ) → b ≡ true → 0 < n → 0 < cond b n 0 + m
here_counts true n m h k = omega (arith, k)
here_counts false n m h k = absurd (false≢true h)

further_counts : (b : Bool) (n m : ℕ) → b ≡ false → 0 < cond b n 0 + m → 0 < m
further_counts true n m h k = absurd (false≢true (sym h))
further_counts false n m h k = omega (arith, k)

pub record IsComeTo (f : ℕ) (front : List ℕ) (ss : List CallNode) : Type 0 where
  pub path : List ℕ
  pub ends : ends_with f path ≡ true
  pub some : 0 < sum_over_path calls_of_node path front ss

come_to : (f : ℕ) (front : List ℕ) (ss : List CallNode) → HasCalls ss → ends_some_path f ss ≡ true → IsComeTo f front ss
come_to f front [] h some = absurd (false≢true some)
come_to f front (s ∷ ss) h some = elim (cases_Bool (s.function == f)) [
  | inl t ↦ record {
    path = path_after front s;
    ends = ends_with_last f s.function (take s.depth front) ∙ t;
    some = here_counts (bytes_eq (path_after front s) (path_after front s)) s.calls
        (sum_over_path calls_of_node (path_after front s) (path_after front s) ss) (itself (path_after front s)) h.0;
  }
  | inr t ↦
      let k = come_to f (path_after front s) ss h.1 (sym (ap (λ (b : Bool). b || ends_some_path f ss) t) ∙ some) in
      record {
        path = k.path;
        ends = k.ends;
        some = here_or_further (bytes_eq (path_after front s) k.path) s.calls
            (sum_over_path calls_of_node k.path (path_after front s) ss) k.some;
      }
]

is_last : (f : ℕ) (path front : List ℕ) (ss : List CallNode) → ends_with f path ≡ true
    → 0 < sum_over_path calls_of_node path front ss → ends_some_path f ss ≡ true
is_last f path front [] ends some = absurd (omega (arith, some))
is_last f path front (s ∷ ss) ends some = elim (cases_Bool (bytes_eq (path_after front s) path)) [
  | inl t ↦
      let e = (bytes_decides (path_after front s) path).0 t in
      let g : (s.function == f) ≡ true = sym (ends_with_last f s.function (take s.depth front)) ∙ ap (ends_with f) e ∙ ends in
      ap (λ (b : Bool). b || ends_some_path f ss) g
  | inr t ↦ further f s ss (is_last f path (path_after front s) ss ends
      (further_counts (bytes_eq (path_after front s) path) s.calls (sum_over_path calls_of_node path (path_after front s) ss) t some))
]

-- ---- sums

cases_nat : (n : ℕ) → (n ≡ 0) ⊎ (0 < n)
cases_nat zero = inl refl
cases_nat (suc n) = inr (omega arith)

either_of_both : (s a b : Bool) → (a ≡ true → s ≡ true) → (b ≡ true → s ≡ true)
    → (s ≡ true → a ≡ false → b ≡ true) → s ≡ (a || b)
either_of_both s true b h k m = h refl
either_of_both s false true h k m = k refl
either_of_both true false false h k m = sym (m refl refl)
either_of_both false false false h k m = refl

module _ (a b sum : List CallNode) (h : HasCalls a) (k : HasCalls b) (is : IsSumOfCallTrees a b sum) where
  pub functions_of_sum : (f : ℕ) → ends_some_path f sum ≡ (ends_some_path f a || ends_some_path f b)
  functions_of_sum f = either_of_both (ends_some_path f sum) (ends_some_path f a) (ends_some_path f b) node_of_first node_of_second of_sum
    where
      node_of_first : ends_some_path f a ≡ true → ends_some_path f sum ≡ true
      node_of_first some =
          let c = come_to f [] a h some in
          let e = is.calls c.path in
          let more = c.some in
          is_last f c.path [] sum c.ends (omega (arith, e, more))

      node_of_second : ends_some_path f b ≡ true → ends_some_path f sum ≡ true
      node_of_second some =
          let c = come_to f [] b k some in
          let e = is.calls c.path in
          let more = c.some in
          is_last f c.path [] sum c.ends (omega (arith, e, more))

      by_first : (path : List ℕ) → ends_with f path ≡ true → ends_some_path f a ≡ false → calls_at path a ≡ 0
      by_first path ends none = elim (cases_nat (calls_at path a)) [
        | inl e ↦ e
        | inr more ↦ absurd (false≢true (sym none ∙ is_last f path [] a ends more))
      ]

      of_sum : ends_some_path f sum ≡ true → ends_some_path f a ≡ false → ends_some_path f b ≡ true
      of_sum some none =
          let c = come_to f [] sum (is.some h k) some in
          let e = is.calls c.path in
          let more = c.some in
          let nothing = by_first c.path c.ends none in
          is_last f c.path [] b c.ends (omega (arith, e, more, nothing))

has_either : (o p : Option (List ℕ)) → has_name (min_text_of o p) ≡ (has_name o || has_name p)
has_either None p = refl
has_either (Some name) None = refl
has_either (Some name) (Some other) = refl

pub names_of_sum : (x y : ImageCounts) (functions : List FunctionName) (nodes : List CallNode) → IsValidImage x → IsValidImage y
    → IsSumOfNames x.functions y.functions functions → IsSumOfCallTrees x.nodes y.nodes nodes → AreNamesOf nodes functions
names_of_sum x y functions nodes h k names is f =
    ap has_name (first_is functions 0 f names.names.rising ∙ names.each f) ∙ has_either (name_at f x.functions) (name_at f y.functions)
    ∙ (λ i. has_name ((sym (first_is x.functions 0 f h.names.rising)) i) || has_name ((sym (first_is y.functions 0 f k.names.rising)) i))
    ∙ (λ i. h.names_of_nodes f i || k.names_of_nodes f i)
    ∙ sym (functions_of_sum x.nodes y.nodes nodes (all_come_to x.nodes h.nodes.each) (all_come_to y.nodes k.nodes.each) is f)
