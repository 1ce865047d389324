-- A function that has a name in a table is the last of a list that a run came to.
use Rattle.std.proofs.Common.{◌≡◌, ◌∙◌, ◌==◌, ◌+◌, ◌<◌, ◌⊎◌, ℕ, Bool, true, false, cond, List, [], ◌∷◌, Option, Some, None, refl, sym, ap, arith, inl, inr, take}
use Rattle.std.proofs.lemmas.Bool.{cases_Bool, false≢true}
use Rattle.std.specs.Cmp.Lexicographic.{bytes_decides}
use Rattle.std.specs.Prelude.{◌||◌}
use Rattle.std.specs.List.{AllByRecursion}
use Rattle.std.specs.Str.{bytes_eq}
use Rattle.rv_count_tables.proofs.Public.{first_is}
use Rattle.rv_count_tables.specs.declared.table.ImageCounts.{ImageCounts}
use Rattle.rv_count_tables.specs.Table.{calls_in_image, has_name, min_text_of, name_at, name_in, IsValidImage, IsValidNode}
use Rattle.rv_count_tables.specs.declared_call_node.CallNode.{CallNode}
use Rattle.rv_count_tables.specs.Profiles.{ends_some_path}
use Rattle.rv_count_tables.specs.Trees.{calls_at, calls_of_node, sum_over_path, ends_with, path_after}
use Rattle.rv_stacks.proofs.Steps.{last_of}

here_counts : (b : Bool) (n m : ℕ) → b ≡ true → 0 < n → 0 < cond b n 0 + m
here_counts true n m h k = omega (arith, k)
here_counts false n m h k = absurd (false≢true h)

further_counts : (b : Bool) (n m : ℕ) → 0 < m → 0 < cond b n 0 + m
further_counts b n m h = omega (arith, h)

-- ---- among spots

record IsLastOf (f : ℕ) (front : List ℕ) (ss : List CallNode) : Type 0 where
  pub path : List ℕ
  pub ends : ends_with f path ≡ true
  pub some : 0 < sum_over_path calls_of_node path front ss

last_of_list : (f : ℕ) (front : List ℕ) (ss : List CallNode) → AllByRecursion IsValidNode ss → ends_some_path f ss ≡ true
    → IsLastOf f front ss
last_of_list f front [] h some = absurd (false≢true some)
last_of_list f front (s ∷ ss) h some = elim (cases_Bool (s.function == f)) [
  | inl t ↦
      let path = path_after front s in
      record {
        path = path;
        ends = last_of f (take s.depth front) s.function ∙ t;
        some = here_counts (bytes_eq path path) s.calls (sum_over_path calls_of_node path path ss)
            ((bytes_decides path path).1 refl) h.0.some;
      }
  | inr t ↦
      let k = last_of_list f (path_after front s) ss h.1 (sym (ap (λ (b : Bool). b || ends_some_path f ss) t) ∙ some) in
      record {
        path = k.path;
        ends = k.ends;
        some = further_counts (bytes_eq (path_after front s) k.path) s.calls
            (sum_over_path calls_of_node k.path (path_after front s) ss) k.some;
      }
]

-- ---- in the image of a digest

either_named : (o p : Option (List ℕ)) → has_name (min_text_of o p) ≡ true → (has_name o ≡ true) ⊎ (has_name p ≡ true)
either_named None p h = inr h
either_named (Some name) p h = inl refl

named_here : (b : Bool) (o : Option (List ℕ)) → has_name (cond b o None) ≡ true → (b ≡ true) × (has_name o ≡ true)
named_here true o h = (refl, h)
named_here false o h = absurd (false≢true h)

pub record IsComeTo (f : ℕ) (digest : List ℕ) (is : List ImageCounts) : Type 0 where
  pub path : List ℕ
  pub ends : ends_with f path ≡ true
  pub some : 0 < calls_in_image digest path is

pub come_to : (f : ℕ) (digest : List ℕ) (is : List ImageCounts) → AllByRecursion IsValidImage is
    → has_name (name_in digest f is) ≡ true → IsComeTo f digest is
come_to f digest [] h named = absurd (false≢true named)
come_to f digest (i ∷ is) h named =
    elim (either_named (cond (bytes_eq i.digest digest) (name_at f i.functions) None) (name_in digest f is) named) [
      | inl t ↦
          let here = named_here (bytes_eq i.digest digest) (name_at f i.functions) t in
          let last = sym (h.0.names_of_nodes f) ∙ ap has_name (first_is i.functions 0 f h.0.names.rising) ∙ here.1 in
          let k = last_of_list f [] i.nodes h.0.nodes.each last in
          record {
            path = k.path;
            ends = k.ends;
            some = here_counts (bytes_eq i.digest digest) (calls_at k.path i.nodes) (calls_in_image digest k.path is) here.0 k.some;
          }
      | inr t ↦
          let k = come_to f digest is h.1 t in
          record {
            path = k.path;
            ends = k.ends;
            some = further_counts (bytes_eq i.digest digest) (calls_at k.path i.nodes) (calls_in_image digest k.path is) k.some;
          }
    ]
