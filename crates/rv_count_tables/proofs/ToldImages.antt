-- Tables are told apart by their numbers, their paths and their runs.
use Rattle.std.proofs.Common.{◌≡◌, ◌∙◌, ◌+◌, ℕ, Bool, true, false, cond, List, [], ◌∷◌, Option, Some, None, refl, sym, ap, arith, inl, inr}
use Rattle.std.proofs.lemmas.Bool.{cases_Bool}
use Rattle.std.specs.Cmp.Lexicographic.{bytes_decides}
use Rattle.std.specs.List.{AllByRecursion}
use Rattle.std.specs.Str.{bytes_eq}
use Rattle.rv_count_tables.specs.declared.table.ImageCounts.{ImageCounts}
use Rattle.rv_count_tables.specs.declared.table.CountTable.{CountTable}
use Rattle.rv_count_tables.specs.Table.{executed_at, taken_at, name_at, executed_in, taken_in, path_of_image, name_in, calls_in_image, steps_in, min_text_of, is_before, digests_increase_from, IsValidImage, IsValidTable}
use Rattle.rv_call_tree.specs.Trees.{calls_at, steps_at}
use Rattle.rv_call_tree.proofs.Public.{one_tree_of_counts}
use Rattle.rv_count_tables.proofs.AddingNames.{one_list_of_names}
use Rattle.rv_count_tables.specs.Sum.{IsSumOfTables}
use Rattle.rv_count_tables.proofs.Told.{one_of, left_over, either_order, either_first}
use Rattle.rv_count_tables.proofs.AddingImages.{all_come_to, head_differs, images_behind, images_raised, none_named, still_up}
use Rattle.rv_count_tables.proofs.Paths.{none_before_itself, none_behind, same_place, either, any_first}

-- ---- a digest that is not among those of a list

no_path : (is : List ImageCounts) (last digest : List ℕ) → digests_increase_from (Some last) is ≡ true
    → is_before last digest ≡ false → path_of_image digest is ≡ None
no_path [] last digest h up = refl
no_path (i ∷ is) last digest h up =
    ap (λ (t : Bool). min_text_of (cond t (Some i.path) None) (path_of_image digest is)) (head_differs last digest i is h up)
    ∙ no_path is i.digest digest (images_behind (Some last) i is h) (still_up last digest i is h up)

-- what is counted of each image, in that of a digest
abbrev counted_in : (ImageCounts → ℕ) → List ℕ → List ImageCounts → ℕ
counted_in count digest [] = 0
counted_in count digest (i ∷ is) = cond (bytes_eq i.digest digest) (count i) 0 + counted_in count digest is

none_counted : (count : ImageCounts → ℕ) (is : List ImageCounts) (last digest : List ℕ) → digests_increase_from (Some last) is ≡ true
    → is_before last digest ≡ false → counted_in count digest is ≡ 0
none_counted count [] last digest h up = refl
none_counted count (i ∷ is) last digest h up =
    let e = ap (λ (t : Bool). cond t (count i) 0) (head_differs last digest i is h up) in
    let r = none_counted count is i.digest digest (images_behind (Some last) i is h) (still_up last digest i is h up) in
    omega (arith, e, r)

-- these are such numbers
begun_is : (n : ℕ) (digest : List ℕ) (is : List ImageCounts)
    → executed_in digest n is ≡ counted_in (λ i. executed_at n i.addresses) digest is
begun_is n digest [] = refl
begun_is n digest (i ∷ is) = ap (λ (m : ℕ). cond (bytes_eq i.digest digest) (executed_at n i.addresses) 0 + m) (begun_is n digest is)

taken_is : (n : ℕ) (digest : List ℕ) (is : List ImageCounts)
    → taken_in digest n is ≡ counted_in (λ i. taken_at n i.addresses) digest is
taken_is n digest [] = refl
taken_is n digest (i ∷ is) = ap (λ (m : ℕ). cond (bytes_eq i.digest digest) (taken_at n i.addresses) 0 + m) (taken_is n digest is)

arrivals_is : (path digest : List ℕ) (is : List ImageCounts)
    → calls_in_image digest path is ≡ counted_in (λ i. calls_at path i.nodes) digest is
arrivals_is path digest [] = refl
arrivals_is path digest (i ∷ is) =
    ap (λ (m : ℕ). cond (bytes_eq i.digest digest) (calls_at path i.nodes) 0 + m) (arrivals_is path digest is)

steps_is : (path digest : List ℕ) (is : List ImageCounts)
    → steps_in digest path is ≡ counted_in (λ i. steps_at path i.nodes) digest is
steps_is path digest [] = refl
steps_is path digest (i ∷ is) =
    ap (λ (m : ℕ). cond (bytes_eq i.digest digest) (steps_at path i.nodes) 0 + m) (steps_is path digest is)

-- ---- the first image of a list

itself : (s : List ℕ) → bytes_eq s s ≡ true
itself s = (bytes_decides s s).1 refl

path_after_first : (last : Option (List ℕ)) (i : ImageCounts) (is : List ImageCounts) → digests_increase_from last (i ∷ is) ≡ true
    → path_of_image i.digest (i ∷ is) ≡ Some i.path
path_after_first last i is h =
    ap (λ (t : Bool). min_text_of (cond t (Some i.path) None) (path_of_image i.digest is)) (itself i.digest)
    ∙ ap (min_text_of (Some i.path)) (no_path is i.digest i.digest (images_behind last i is h) (none_before_itself i.digest))

counted_of_first : (count : ImageCounts → ℕ) (last : Option (List ℕ)) (i : ImageCounts) (is : List ImageCounts)
    → digests_increase_from last (i ∷ is) ≡ true → counted_in count i.digest (i ∷ is) ≡ count i
counted_of_first count last i is h =
    let e = ap (λ (t : Bool). cond t (count i) 0) (itself i.digest) in
    let r = none_counted count is i.digest i.digest (images_behind last i is h) (none_before_itself i.digest) in
    omega (arith, e, r)

name_of_first : (last : Option (List ℕ)) (i : ImageCounts) (is : List ImageCounts) (f : ℕ) → digests_increase_from last (i ∷ is) ≡ true
    → name_in i.digest f (i ∷ is) ≡ name_at f i.functions
name_of_first last i is f h =
    ap (λ (t : Bool). min_text_of (cond t (name_at f i.functions) None) (name_in i.digest f is)) (itself i.digest)
    ∙ ap (min_text_of (name_at f i.functions)) (none_named is i.digest i.digest f (images_behind last i is h) (none_before_itself i.digest))
    ∙ none_behind (name_at f i.functions)

-- the first digest of one list is not below that of a list with the same paths
not_earlier : (l m : Option (List ℕ)) (i j : ImageCounts) (is js : List ImageCounts) → digests_increase_from l (i ∷ is) ≡ true
    → digests_increase_from m (j ∷ js) ≡ true → path_of_image i.digest (i ∷ is) ≡ path_of_image i.digest (j ∷ js)
    → is_before i.digest j.digest ≡ false
not_earlier l m i j is js h k e = elim (cases_Bool (is_before i.digest j.digest)) [
  | inl t ↦
      let none = no_path (j ∷ js) i.digest i.digest (images_raised m i.digest j js k t) (none_before_itself i.digest) in
      let some = path_after_first l i is h in
      let c : Some i.path ≡ None = sym some ∙ e ∙ none in absurd (cc)
  | inr f ↦ f
]

some_is : (p q : List ℕ) → Some p ≡ Some q → p ≡ q
some_is p q e = cc

-- what tells images apart, but for their digests
pub record AreAlike (is js : List ImageCounts) : Type 0 where
  pub executed : (digest : List ℕ) (n : ℕ) → executed_in digest n is ≡ executed_in digest n js
  pub taken : (digest : List ℕ) (n : ℕ) → taken_in digest n is ≡ taken_in digest n js
  pub paths : (digest : List ℕ) → path_of_image digest is ≡ path_of_image digest js
  pub names : (digest : List ℕ) (f : ℕ) → name_in digest f is ≡ name_in digest f js
  pub calls : (digest path : List ℕ) → calls_in_image digest path is ≡ calls_in_image digest path js
  pub steps : (digest path : List ℕ) → steps_in digest path is ≡ steps_in digest path js

-- a number of the first images of both lists
first_count : (count : ImageCounts → ℕ) (l m : Option (List ℕ)) (i j : ImageCounts) (is js : List ImageCounts)
    → digests_increase_from l (i ∷ is) ≡ true → digests_increase_from m (j ∷ js) ≡ true → i.digest ≡ j.digest
    → counted_in count i.digest (i ∷ is) ≡ counted_in count i.digest (j ∷ js) → count i ≡ count j
first_count count l m i j is js h k d e = sym (counted_of_first count l i is h) ∙ e
    ∙ ap (λ (s : List ℕ). counted_in count s (j ∷ js)) d ∙ counted_of_first count m j js k

-- of the others
other_counts : (count : ImageCounts → ℕ) (digest : List ℕ) (i j : ImageCounts) (is js : List ImageCounts) → i ≡ j
    → counted_in count digest (i ∷ is) ≡ counted_in count digest (j ∷ js) → counted_in count digest is ≡ counted_in count digest js
other_counts count digest i j is js one e =
    left_over (cond (bytes_eq i.digest digest) (count i) 0) (cond (bytes_eq j.digest digest) (count j) 0) _ _
    (λ x. cond (bytes_eq (one x).digest digest) (count (one x)) 0) e

same_image : (l m : Option (List ℕ)) (i j : ImageCounts) (is js : List ImageCounts) → digests_increase_from l (i ∷ is) ≡ true
    → digests_increase_from m (j ∷ js) ≡ true → IsValidImage i → IsValidImage j → i.digest ≡ j.digest → AreAlike (i ∷ is) (j ∷ js) → i ≡ j
same_image l m i j is js h k p q d alike =
    let path = some_is i.path j.path (sym (path_after_first l i is h) ∙ alike.paths i.digest
    ∙ ap (λ (s : List ℕ). path_of_image s (j ∷ js)) d ∙ path_after_first m j js k) in
    let addresses = one_of i.addresses j.addresses p.counts q.counts
    (λ n. first_count (λ x. executed_at n x.addresses) l m i j is js h k d
    (sym (begun_is n i.digest (i ∷ is)) ∙ alike.executed i.digest n ∙ begun_is n i.digest (j ∷ js)))
    (λ n. first_count (λ x. taken_at n x.addresses) l m i j is js h k d
    (sym (taken_is n i.digest (i ∷ is)) ∙ alike.taken i.digest n ∙ taken_is n i.digest (j ∷ js))) in
    let functions = one_list_of_names i.functions j.functions p.names q.names
    (λ f. sym (name_of_first l i is f h) ∙ alike.names i.digest f
    ∙ ap (λ (s : List ℕ). name_in s f (j ∷ js)) d ∙ name_of_first m j js f k) in
    let nodes = one_tree_of_counts i.nodes j.nodes p.nodes.tree q.nodes.tree (all_come_to i.nodes p.nodes.each)
    (all_come_to j.nodes q.nodes.each)
    (λ at. first_count (λ x. calls_at at x.nodes) l m i j is js h k d
    (sym (arrivals_is at i.digest (i ∷ is)) ∙ alike.calls i.digest at ∙ arrivals_is at i.digest (j ∷ js)))
    (λ at. first_count (λ x. steps_at at x.nodes) l m i j is js h k d
    (sym (steps_is at i.digest (i ∷ is)) ∙ alike.steps i.digest at ∙ steps_is at i.digest (j ∷ js))) in
    λ x. record { digest = d x; path = path x; addresses = addresses x; functions = functions x; nodes = nodes x }

-- the paths of the others
other_paths : (l m : Option (List ℕ)) (i j : ImageCounts) (is js : List ImageCounts) (digest : List ℕ) → i ≡ j
    → digests_increase_from l (i ∷ is) ≡ true → digests_increase_from m (j ∷ js) ≡ true
    → path_of_image digest (i ∷ is) ≡ path_of_image digest (j ∷ js) → path_of_image digest is ≡ path_of_image digest js
other_paths l m i j is js digest same h k e = elim (cases_Bool (bytes_eq i.digest digest)) [
  | inl t ↦
      let d : i.digest ≡ digest = (bytes_decides i.digest digest).0 t in
      let d' : j.digest ≡ digest = ap (λ (x : ImageCounts). x.digest) (sym same) ∙ d in
      no_path is i.digest digest (images_behind l i is h) (ap (is_before i.digest) (sym d) ∙ none_before_itself i.digest)
      ∙ sym (no_path js j.digest digest (images_behind m j js k) (ap (is_before j.digest) (sym d') ∙ none_before_itself j.digest))
  | inr f ↦
      let g : bytes_eq j.digest digest ≡ false = ap (λ (x : ImageCounts). bytes_eq x.digest digest) (sym same) ∙ f in
      sym (ap (λ (t : Bool). min_text_of (cond t (Some i.path) None) (path_of_image digest is)) f) ∙ e
      ∙ ap (λ (t : Bool). min_text_of (cond t (Some j.path) None) (path_of_image digest js)) g
]

-- the names
other_names : (l m : Option (List ℕ)) (i j : ImageCounts) (is js : List ImageCounts) (digest : List ℕ) (f : ℕ) → i ≡ j
    → digests_increase_from l (i ∷ is) ≡ true → digests_increase_from m (j ∷ js) ≡ true
    → name_in digest f (i ∷ is) ≡ name_in digest f (j ∷ js) → name_in digest f is ≡ name_in digest f js
other_names l m i j is js digest f same h k e = elim (cases_Bool (bytes_eq i.digest digest)) [
  | inl t ↦
      let d : i.digest ≡ digest = (bytes_decides i.digest digest).0 t in
      let d' : j.digest ≡ digest = ap (λ (x : ImageCounts). x.digest) (sym same) ∙ d in
      none_named is i.digest digest f (images_behind l i is h) (ap (is_before i.digest) (sym d) ∙ none_before_itself i.digest)
      ∙ sym (none_named js j.digest digest f (images_behind m j js k) (ap (is_before j.digest) (sym d') ∙ none_before_itself j.digest))
  | inr t ↦
      let g : bytes_eq j.digest digest ≡ false = ap (λ (x : ImageCounts). bytes_eq x.digest digest) (sym same) ∙ t in
      sym (ap (λ (b : Bool). min_text_of (cond b (name_at f i.functions) None) (name_in digest f is)) t) ∙ e
      ∙ ap (λ (b : Bool). min_text_of (cond b (name_at f j.functions) None) (name_in digest f js)) g
]

others_alike : (l m : Option (List ℕ)) (i j : ImageCounts) (is js : List ImageCounts) → digests_increase_from l (i ∷ is) ≡ true
    → digests_increase_from m (j ∷ js) ≡ true → i ≡ j → AreAlike (i ∷ is) (j ∷ js) → AreAlike is js
others_alike l m i j is js h k one alike = record {
  executed = λ d n. begun_is n d is ∙ other_counts (λ x. executed_at n x.addresses) d i j is js one
      (sym (begun_is n d (i ∷ is)) ∙ alike.executed d n ∙ begun_is n d (j ∷ js)) ∙ sym (begun_is n d js);
  taken = λ d n. taken_is n d is ∙ other_counts (λ x. taken_at n x.addresses) d i j is js one
      (sym (taken_is n d (i ∷ is)) ∙ alike.taken d n ∙ taken_is n d (j ∷ js)) ∙ sym (taken_is n d js);
  paths = λ d. other_paths l m i j is js d one h k (alike.paths d);
  names = λ d f. other_names l m i j is js d f one h k (alike.names d f);
  calls = λ d p. arrivals_is p d is ∙ other_counts (λ x. calls_at p x.nodes) d i j is js one
      (sym (arrivals_is p d (i ∷ is)) ∙ alike.calls d p ∙ arrivals_is p d (j ∷ js)) ∙ sym (arrivals_is p d js);
  steps = λ d p. steps_is p d is ∙ other_counts (λ x. steps_at p x.nodes) d i j is js one
      (sym (steps_is p d (i ∷ is)) ∙ alike.steps d p ∙ steps_is p d (j ∷ js)) ∙ sym (steps_is p d js);
}

-- lists of images that are alike are one
one_list : (is js : List ImageCounts) (l m : Option (List ℕ)) → AllByRecursion IsValidImage is → AllByRecursion IsValidImage js
    → digests_increase_from l is ≡ true → digests_increase_from m js ≡ true → AreAlike is js → is ≡ js
one_list [] [] l m p q h k alike = refl
one_list [] (j ∷ js) l m p q h k alike =
    let c : None ≡ Some j.path = alike.paths j.digest ∙ path_after_first m j js k in absurd (cc)
one_list (i ∷ is) [] l m p q h k alike =
    let c : None ≡ Some i.path = sym (alike.paths i.digest) ∙ path_after_first l i is h in absurd (cc)
one_list (i ∷ is) (j ∷ js) l m p q h k alike =
    let d : i.digest ≡ j.digest = same_place i.digest j.digest
    (not_earlier l m i j is js h k (alike.paths i.digest)) (not_earlier m l j i js is k h (sym (alike.paths j.digest))) in
    let one : i ≡ j = same_image l m i j is js h k p.0 q.0 d alike in
    let others = one_list is js (Some i.digest) (Some j.digest) p.1 q.1 (images_behind l i is h) (images_behind m j js k)
    (others_alike l m i j is js h k one alike) in
    λ x. one x ∷ others x

pub one_table_of : (t u : CountTable) → IsValidTable t → IsValidTable u
    → ((digest : List ℕ) (n : ℕ) → executed_in digest n t.images ≡ executed_in digest n u.images)
    → ((digest : List ℕ) (n : ℕ) → taken_in digest n t.images ≡ taken_in digest n u.images)
    → ((digest : List ℕ) → path_of_image digest t.images ≡ path_of_image digest u.images)
    → ((digest : List ℕ) (f : ℕ) → name_in digest f t.images ≡ name_in digest f u.images)
    → ((digest path : List ℕ) → calls_in_image digest path t.images ≡ calls_in_image digest path u.images)
    → ((digest path : List ℕ) → steps_in digest path t.images ≡ steps_in digest path u.images) → t.runs ≡ u.runs → t ≡ u
one_table_of t u h k executed taken paths names calls steps runs =
    let alike : AreAlike t.images u.images = record {
      executed = executed;
      taken = taken;
      paths = paths;
      names = names;
      calls = calls;
      steps = steps;
    } in
    let images = one_list t.images u.images None None h.images k.images h.rising k.rising alike in
    λ i. record { images = images i; runs = runs i }

-- ---- sums of tables

pub tables_commute : (a b ab ba : CountTable) → IsSumOfTables a b ab → IsSumOfTables b a ba → ab ≡ ba
tables_commute a b ab ba p q = one_table_of ab ba p.table q.table
    (λ d n. either_order _ _ (executed_in d n a.images) (executed_in d n b.images) (p.executed d n) (q.executed d n))
    (λ d n. either_order _ _ (taken_in d n a.images) (taken_in d n b.images) (p.taken d n) (q.taken d n))
    (λ d. p.paths d ∙ either (path_of_image d a.images) (path_of_image d b.images) ∙ sym (q.paths d))
    (λ d f. p.names d f ∙ either (name_in d f a.images) (name_in d f b.images) ∙ sym (q.names d f))
    (λ d n. either_order _ _ (calls_in_image d n a.images) (calls_in_image d n b.images) (p.calls d n) (q.calls d n))
    (λ d n. either_order _ _ (steps_in d n a.images) (steps_in d n b.images) (p.steps d n) (q.steps d n))
    (either_order _ _ a.runs b.runs p.runs q.runs)

pub tables_associate : (a b c ab bc first last : CountTable) → IsSumOfTables a b ab → IsSumOfTables ab c first → IsSumOfTables b c bc
    → IsSumOfTables a bc last → first ≡ last
tables_associate a b c ab bc first last p q r s = one_table_of first last q.table s.table
    (λ d n. either_first (executed_in d n ab.images) (executed_in d n bc.images) _ _ (executed_in d n a.images)
    (executed_in d n b.images) (executed_in d n c.images) (p.executed d n) (q.executed d n) (r.executed d n) (s.executed d n))
    (λ d n. either_first (taken_in d n ab.images) (taken_in d n bc.images) _ _ (taken_in d n a.images)
    (taken_in d n b.images) (taken_in d n c.images) (p.taken d n) (q.taken d n) (r.taken d n) (s.taken d n))
    (λ d. q.paths d ∙ ap (λ x. min_text_of x (path_of_image d c.images)) (p.paths d)
    ∙ any_first (path_of_image d a.images) (path_of_image d b.images) (path_of_image d c.images)
    ∙ sym (ap (min_text_of (path_of_image d a.images)) (r.paths d)) ∙ sym (s.paths d))
    (λ d f. q.names d f ∙ ap (λ x. min_text_of x (name_in d f c.images)) (p.names d f)
    ∙ any_first (name_in d f a.images) (name_in d f b.images) (name_in d f c.images)
    ∙ sym (ap (min_text_of (name_in d f a.images)) (r.names d f)) ∙ sym (s.names d f))
    (λ d n. either_first (calls_in_image d n ab.images) (calls_in_image d n bc.images) _ _ (calls_in_image d n a.images)
    (calls_in_image d n b.images) (calls_in_image d n c.images) (p.calls d n) (q.calls d n) (r.calls d n) (s.calls d n))
    (λ d n. either_first (steps_in d n ab.images) (steps_in d n bc.images) _ _ (steps_in d n a.images)
    (steps_in d n b.images) (steps_in d n c.images) (p.steps d n) (q.steps d n) (r.steps d n) (s.steps d n))
    (either_first ab.runs bc.runs _ _ a.runs b.runs c.runs p.runs q.runs r.runs s.runs)
