-- The first of a sum of images, in each of the cases.
use Rattle.std.proofs.Common.{◌≡◌, ◌∙◌, ◌+◌, ◌^◌, ◌<◌, ◌≤◌, inl, inr, ℕ, zero, suc, Bool, true, false, cond, List, [], ◌∷◌, ◌++◌, Option, Some, None, length, drop, get_or, refl, sym, ap, subst, append-nil, arith}
use Rattle.std.proofs.lemmas.Bool.{and_parts, and_from, both_ways, cases_Bool, cond_both}
use Rattle.std.proofs.lemmas.List.{drop_all}
use Rattle.std.specs.Cmp.Lexicographic.{bytes_decides}
use Rattle.std.specs.List.{AllByRecursion}
use Rattle.std.specs.Str.{bytes_eq, IsUtf8}
use Rattle.rv_count_tables.specs.declared.table.FunctionName.{FunctionName}
use Rattle.rv_count_tables.specs.declared.table.CountTable.{CountTable}
use Rattle.rv_count_tables.specs.declared.table.ImageCounts.{ImageCounts}
use Rattle.rv_count_tables.specs.declared.sum.SumError.{SumError}
use Rattle.rv_count_tables.specs.declared.sum.SumError.TheVariants.{OutOfMemory, Count, Node, Names, Runs}
use Rattle.rv_count_tables.specs.declared.sum_of_images.NextImage.{NextImage}
use Rattle.rv_count_tables.specs.Lines.{lacks}
use Rattle.rv_count_tables.specs.Table.{executed_at, taken_at, name_at, executed_in, taken_in, path_of_image, name_in, calls_in_image, steps_in, min_text, min_text_of}
use Rattle.rv_count_tables.specs.Table.{is_before, is_greater_than_last, digests_increase_from, AreNamesOf, AreValidNodes, IsValidImage, IsValidNode, IsValidTable}
use Rattle.rv_count_tables.specs.Sum.{sum_error_of, NamesAgree, HasName, HasNameIn, IsSumOfTables, IsSumOfCounts, IsSumOfNames, CountsHaveNoSum, IsErrorOfNames}
use Rattle.rv_count_tables.specs.SumSteps.{ImagesAddUp, IsNextImage, ImagesHaveNoSum, ImageHasNoSum}
use Rattle.rv_call_tree.specs.declared.sum.CallTreeSumError.{CallTreeSumError}
use Rattle.rv_call_tree.specs.declared.sum.CallTreeSumError.TheVariants as nodes
use Rattle.rv_call_tree.specs.declared.call_node.CallNode.{CallNode as ACallNode}
use Rattle.rv_call_tree.specs.Sums.{FitsFields, IsSumOfCallTrees, IsOverflowOfTrees}
use Rattle.rv_call_tree.specs.Trees.{calls_at, steps_at, HasCalls}
use Rattle.rv_count_tables.proofs.Adding.{parts}
use Rattle.rv_count_tables.proofs.Paths.{any_first, before_both, by_two, none_before_itself, none_behind, same_place, second_first}

-- ---- digests in their order

pub image_low : (last : Option (List ℕ)) (i : ImageCounts) (is : List ImageCounts) → digests_increase_from last (i ∷ is) ≡ true
    → is_greater_than_last last i.digest ≡ true
unfolding digests_increase_from
image_low last i is h = (and_parts (is_greater_than_last last i.digest) (digests_increase_from (Some i.digest) is) h).0

pub images_behind : (last : Option (List ℕ)) (i : ImageCounts) (is : List ImageCounts) → digests_increase_from last (i ∷ is) ≡ true
    → digests_increase_from (Some i.digest) is ≡ true
unfolding digests_increase_from
images_behind last i is h = (and_parts (is_greater_than_last last i.digest) (digests_increase_from (Some i.digest) is) h).1

pub images_rise : (last : Option (List ℕ)) (i : ImageCounts) (is : List ImageCounts) → is_greater_than_last last i.digest ≡ true
    → digests_increase_from (Some i.digest) is ≡ true → digests_increase_from last (i ∷ is) ≡ true
unfolding digests_increase_from
images_rise last i is h k = and_from (is_greater_than_last last i.digest) (digests_increase_from (Some i.digest) is) h k

pub no_images_rise : (last : Option (List ℕ)) → digests_increase_from last [] ≡ true
unfolding digests_increase_from
no_images_rise last = refl

pub images_raised : (last : Option (List ℕ)) (digest : List ℕ) (i : ImageCounts) (is : List ImageCounts)
    → digests_increase_from last (i ∷ is) ≡ true → is_before digest i.digest ≡ true → digests_increase_from (Some digest) (i ∷ is) ≡ true
images_raised last digest i is h before = images_rise (Some digest) i is before (images_behind last i is h)

-- ---- a digest that is not among those of a list

differ : (a b : List ℕ) → (a ≡ b → ⊥) → bytes_eq a b ≡ false
differ a b h = elim (cases_Bool (bytes_eq a b)) [
  | inl t ↦ absurd (h ((bytes_decides a b).0 t))
  | inr f ↦ f
]

-- each digest of a list that rises behind one is another than those up to it
pub head_differs : (last digest : List ℕ) (i : ImageCounts) (is : List ImageCounts) → digests_increase_from (Some last) (i ∷ is) ≡ true
    → is_before last digest ≡ false → bytes_eq i.digest digest ≡ false
head_differs last digest i is h up = differ i.digest digest
    (λ e. both_ways _ up (ap (is_before last) (sym e) ∙ image_low (Some last) i is h))

pub still_up : (last digest : List ℕ) (i : ImageCounts) (is : List ImageCounts) → digests_increase_from (Some last) (i ∷ is) ≡ true
    → is_before last digest ≡ false → is_before i.digest digest ≡ false
still_up last digest i is h up = elim (cases_Bool (is_before i.digest digest)) [
  | inl t ↦ absurd (both_ways _ up (before_both last i.digest digest (image_low (Some last) i is h) t))
  | inr f ↦ f
]

pub none_named : (is : List ImageCounts) (last digest : List ℕ) (f : ℕ) → digests_increase_from (Some last) is ≡ true
    → is_before last digest ≡ false → name_in digest f is ≡ None
none_named [] last digest f h up = refl
none_named (i ∷ is) last digest f h up =
    ap (λ (t : Bool). min_text_of (cond t (name_at f i.functions) None) (name_in digest f is)) (head_differs last digest i is h up)
    ∙ none_named is i.digest digest f (images_behind (Some last) i is h) (still_up last digest i is h up)

-- ---- names in which both lists agree

pub agree_with_none : (o : Option (List ℕ)) → NamesAgree o None
agree_with_none None = tt
agree_with_none (Some name) = tt

passed_image : (x : ImageCounts) (xs : List ImageCounts) (d : List ℕ) (f : ℕ) → bytes_eq x.digest d ≡ false
    → name_in d f (x ∷ xs) ≡ name_in d f xs
passed_image x xs d f t = ap (λ (b : Bool). min_text_of (cond b (name_at f x.functions) None) (name_in d f xs)) t

-- none of those behind an image has its digest
none_further : (x : ImageCounts) (xs : List ImageCounts) (d : List ℕ) (f : ℕ) → digests_increase_from (Some x.digest) xs ≡ true
    → bytes_eq x.digest d ≡ true → name_in d f xs ≡ None
none_further x xs d f h t =
    let e = (bytes_decides x.digest d).0 t in
    none_named xs x.digest d f h (ap (is_before x.digest) (sym e) ∙ none_before_itself x.digest)

its_names : (x : ImageCounts) (xs : List ImageCounts) (d : List ℕ) (f : ℕ) → digests_increase_from (Some x.digest) xs ≡ true
    → bytes_eq x.digest d ≡ true → name_in d f (x ∷ xs) ≡ name_at f x.functions
its_names x xs d f h t =
    ap (λ (b : Bool). min_text_of (cond b (name_at f x.functions) None) (name_in d f xs)) t
    ∙ ap (min_text_of (name_at f x.functions)) (none_further x xs d f h t) ∙ none_behind (name_at f x.functions)

first_agrees : (x : ImageCounts) (xs b : List ImageCounts) (d : List ℕ) (f : ℕ) → digests_increase_from (Some x.digest) b ≡ true
    → NamesAgree (name_in d f xs) (name_in d f b) → NamesAgree (name_in d f (x ∷ xs)) (name_in d f b)
first_agrees x xs b d f h k = elim (cases_Bool (bytes_eq x.digest d)) [
  | inl t ↦ subst (NamesAgree (name_in d f (x ∷ xs))) (sym (none_further x b d f h t)) (agree_with_none (name_in d f (x ∷ xs)))
  | inr t ↦ subst (λ (o : Option (List ℕ)). NamesAgree o (name_in d f b)) (sym (passed_image x xs d f t)) k
]

second_agrees : (y : ImageCounts) (a ys : List ImageCounts) (d : List ℕ) (f : ℕ) → digests_increase_from (Some y.digest) a ≡ true
    → NamesAgree (name_in d f a) (name_in d f ys) → NamesAgree (name_in d f a) (name_in d f (y ∷ ys))
second_agrees y a ys d f h k = elim (cases_Bool (bytes_eq y.digest d)) [
  | inl t ↦ subst (λ (o : Option (List ℕ)). NamesAgree o (name_in d f (y ∷ ys))) (sym (none_further y a d f h t)) tt
  | inr t ↦ subst (NamesAgree (name_in d f a)) (sym (passed_image y ys d f t)) k
]

both_agree : (x y : ImageCounts) (xs ys : List ImageCounts) (d : List ℕ) (f : ℕ) → x.digest ≡ y.digest
    → NamesAgree (name_at f x.functions) (name_at f y.functions) → digests_increase_from (Some x.digest) xs ≡ true
    → digests_increase_from (Some y.digest) ys ≡ true → NamesAgree (name_in d f xs) (name_in d f ys)
    → NamesAgree (name_in d f (x ∷ xs)) (name_in d f (y ∷ ys))
both_agree x y xs ys d f one names h k others = elim (cases_Bool (bytes_eq x.digest d)) [
  | inl t ↦
      subst (λ (o : Option (List ℕ)). NamesAgree o (name_in d f (y ∷ ys))) (sym (its_names x xs d f h t))
      (subst (NamesAgree (name_at f x.functions)) (sym (its_names y ys d f k (ap (λ (s : List ℕ). bytes_eq s d) (sym one) ∙ t))) names)
  | inr t ↦
      subst (λ (o : Option (List ℕ)). NamesAgree o (name_in d f (y ∷ ys))) (sym (passed_image x xs d f t))
      (subst (NamesAgree (name_in d f xs)) (sym (passed_image y ys d f (ap (λ (s : List ℕ). bytes_eq s d) (sym one) ∙ t))) others)
]

-- ---- an image ahead of the others

-- an image of the first list alone
first_image_ahead : (x : ImageCounts) (xs b others : List ImageCounts) → IsValidImage x
    → ((last : Option (List ℕ)) → digests_increase_from last b ≡ true → digests_increase_from (Some x.digest) b ≡ true)
    → ImagesAddUp xs b others → ImagesAddUp (x ∷ xs) b (x ∷ others)
first_image_ahead x xs b others image above h = record {
  each = (image, h.each);
  rising = λ last p q. images_rise last x others (image_low last x xs p)
      (h.rising (Some x.digest) (images_behind last x xs p) (above last q));
  agree = λ last p q d f. first_agrees x xs b d f (above last q)
      (h.agree (Some x.digest) (images_behind last x xs p) (above last q) d f);
  executed = λ d n. let e = h.executed d n in omega (arith, e);
  taken = λ d n. let e = h.taken d n in omega (arith, e);
  paths = λ d. ap (min_text_of (cond (bytes_eq x.digest d) (Some x.path) None)) (h.paths d)
      ∙ sym (any_first (cond (bytes_eq x.digest d) (Some x.path) None) (path_of_image d xs) (path_of_image d b));
  names = λ d f. ap (min_text_of (cond (bytes_eq x.digest d) (name_at f x.functions) None)) (h.names d f)
      ∙ sym (any_first (cond (bytes_eq x.digest d) (name_at f x.functions) None) (name_in d f xs) (name_in d f b));
  calls = λ d p. let e = h.calls d p in omega (arith, e);
  steps = λ d p. let e = h.steps d p in omega (arith, e);
}

-- an image of the second list alone
second_image_ahead : (y : ImageCounts) (a ys others : List ImageCounts) → IsValidImage y
    → ((last : Option (List ℕ)) → digests_increase_from last a ≡ true → digests_increase_from (Some y.digest) a ≡ true)
    → ImagesAddUp a ys others → ImagesAddUp a (y ∷ ys) (y ∷ others)
second_image_ahead y a ys others image above h = record {
  each = (image, h.each);
  rising = λ last p q. images_rise last y others (image_low last y ys q)
      (h.rising (Some y.digest) (above last p) (images_behind last y ys q));
  agree = λ last p q d f. second_agrees y a ys d f (above last p)
      (h.agree (Some y.digest) (above last p) (images_behind last y ys q) d f);
  executed = λ d n. let e = h.executed d n in omega (arith, e);
  taken = λ d n. let e = h.taken d n in omega (arith, e);
  paths = λ d. ap (min_text_of (cond (bytes_eq y.digest d) (Some y.path) None)) (h.paths d)
      ∙ second_first (path_of_image d a) (cond (bytes_eq y.digest d) (Some y.path) None) (path_of_image d ys);
  names = λ d f. ap (min_text_of (cond (bytes_eq y.digest d) (name_at f y.functions) None)) (h.names d f)
      ∙ second_first (name_in d f a) (cond (bytes_eq y.digest d) (name_at f y.functions) None) (name_in d f ys);
  calls = λ d p. let e = h.calls d p in omega (arith, e);
  steps = λ d p. let e = h.steps d p in omega (arith, e);
}

-- the path of a digest that both lists have
pub path_parts : (s t : Bool) (p q : List ℕ) (r u v : Option (List ℕ)) → s ≡ t → r ≡ min_text_of u v
    → min_text_of (cond s (Some (min_text p q)) None) r
    ≡ min_text_of (min_text_of (cond s (Some p) None) u) (min_text_of (cond t (Some q) None) v)
path_parts s true p q r u v e f =
    ap (λ (k : Bool). min_text_of (cond k (Some (min_text p q)) None) r) e
    ∙ ap (min_text_of (Some (min_text p q))) f ∙ by_two (Some p) (Some q) u v
    ∙ sym (ap (λ (k : Bool). min_text_of (min_text_of (cond k (Some p) None) u) (min_text_of (Some q) v)) e)
path_parts s false p q r u v e f =
    ap (λ (k : Bool). min_text_of (cond k (Some (min_text p q)) None) r) e ∙ f
    ∙ sym (ap (λ (k : Bool). min_text_of (min_text_of (cond k (Some p) None) u) v) e)

-- the name of a function that both have
name_parts : (s t : Bool) (o p q r u v : Option (List ℕ)) → s ≡ t → o ≡ min_text_of p q → r ≡ min_text_of u v
    → min_text_of (cond s o None) r
    ≡ min_text_of (min_text_of (cond s p None) u) (min_text_of (cond t q None) v)
name_parts s true o p q r u v e f g =
    ap (λ (k : Bool). min_text_of (cond k o None) r) e
    ∙ (λ i. min_text_of (f i) (g i)) ∙ by_two p q u v
    ∙ sym (ap (λ (k : Bool). min_text_of (min_text_of (cond k p None) u) (min_text_of q v)) e)
name_parts s false o p q r u v e f g =
    ap (λ (k : Bool). min_text_of (cond k o None) r) e ∙ g
    ∙ sym (ap (λ (k : Bool). min_text_of (min_text_of (cond k p None) u) v) e)

pub least_is : (P : List ℕ → Type 0) (p q : List ℕ) → P p → P q → P (min_text p q)
least_is P p q h k = cond_both (is_before q p) q p P (λ _. k) (λ _. h)

-- an image of both lists
both_images_ahead : (x y sum : ImageCounts) (xs ys others : List ImageCounts) → IsValidImage x → IsValidImage y
    → x.digest ≡ y.digest → sum.digest ≡ x.digest → sum.path ≡ min_text x.path y.path
    → IsSumOfCounts x.addresses y.addresses sum.addresses → IsSumOfNames x.functions y.functions sum.functions
    → AreNamesOf sum.nodes sum.functions → AreValidNodes sum.nodes → IsSumOfCallTrees x.nodes y.nodes sum.nodes
    → ImagesAddUp xs ys others → ImagesAddUp (x ∷ xs) (y ∷ ys) (sum ∷ others)
both_images_ahead x y sum xs ys others image also one at path counts names of tree nodes h = record {
  each = (
    (record {
      digest = ap length at ∙ image.digest;
      bytes = subst (λ (s : List ℕ). AllByRecursion (λ b. b < 256) s) (sym at) image.bytes;
      path = ap (lacks 10) path ∙ least_is (λ s. lacks 10 s ≡ true) x.path y.path image.path also.path;
      text = subst (λ (s : List ℕ). IsUtf8 s) (sym path) (least_is IsUtf8 x.path y.path image.text also.text);
      counts = counts.counts;
      names = names.names;
      nodes = tree;
      names_of_nodes = of;
    }),
    h.each,
  );
  rising = λ last p q. images_rise last sum others (ap (is_greater_than_last last) at ∙ image_low last x xs p)
      (h.rising (Some sum.digest) (ap (λ (s : List ℕ). digests_increase_from (Some s) xs) at ∙ images_behind last x xs p)
      (ap (λ (s : List ℕ). digests_increase_from (Some s) ys) (at ∙ one) ∙ images_behind last y ys q));
  agree = λ last p q d f. both_agree x y xs ys d f one (names.agree f) (images_behind last x xs p) (images_behind last y ys q)
      (h.agree (Some x.digest) (images_behind last x xs p)
      (ap (λ (s : List ℕ). digests_increase_from (Some s) ys) one ∙ images_behind last y ys q) d f);
  executed = λ d n. ap (λ (s : List ℕ). cond (bytes_eq s d) (executed_at n sum.addresses) 0 + executed_in d n others) at
      ∙ parts (bytes_eq x.digest d) (bytes_eq y.digest d) (executed_at n x.addresses) (executed_at n y.addresses)
      (executed_at n sum.addresses) _ _ _ (ap (λ (s : List ℕ). bytes_eq s d) one) (counts.executed n) (h.executed d n);
  taken = λ d n. ap (λ (s : List ℕ). cond (bytes_eq s d) (taken_at n sum.addresses) 0 + taken_in d n others) at
      ∙ parts (bytes_eq x.digest d) (bytes_eq y.digest d) (taken_at n x.addresses) (taken_at n y.addresses)
      (taken_at n sum.addresses) _ _ _ (ap (λ (s : List ℕ). bytes_eq s d) one) (counts.taken n) (h.taken d n);
  paths = λ d. (λ i. min_text_of (cond (bytes_eq (at i) d) (Some (path i)) None) (path_of_image d others))
      ∙ path_parts (bytes_eq x.digest d) (bytes_eq y.digest d) x.path y.path _ (path_of_image d xs) (path_of_image d ys)
      (ap (λ (s : List ℕ). bytes_eq s d) one) (h.paths d);
  names = λ d f. ap (λ (s : List ℕ). min_text_of (cond (bytes_eq s d) (name_at f sum.functions) None) (name_in d f others)) at
      ∙ name_parts (bytes_eq x.digest d) (bytes_eq y.digest d) (name_at f sum.functions) (name_at f x.functions)
      (name_at f y.functions) _ (name_in d f xs) (name_in d f ys)
      (ap (λ (s : List ℕ). bytes_eq s d) one) (names.each f) (h.names d f);
  calls = λ d p. ap (λ (s : List ℕ). cond (bytes_eq s d) (calls_at p sum.nodes) 0 + calls_in_image d p others) at
      ∙ parts (bytes_eq x.digest d) (bytes_eq y.digest d) (calls_at p x.nodes) (calls_at p y.nodes)
      (calls_at p sum.nodes) _ _ _ (ap (λ (s : List ℕ). bytes_eq s d) one) (nodes.calls p) (h.calls d p);
  steps = λ d p. ap (λ (s : List ℕ). cond (bytes_eq s d) (steps_at p sum.nodes) 0 + steps_in d p others) at
      ∙ parts (bytes_eq x.digest d) (bytes_eq y.digest d) (steps_at p x.nodes) (steps_at p y.nodes)
      (steps_at p sum.nodes) _ _ _ (ap (λ (s : List ℕ). bytes_eq s d) one) (nodes.steps p) (h.steps d p);
}

-- ---- the first of a sum in each case of `next_image`

pub image_of_first_alone : (a b : List ImageCounts) (x : ImageCounts) → AllByRecursion IsValidImage a → 0 < length a
    → length b ≡ 0 → x ≡ get_or a 0 x → (next : NextImage) → next ≡ record { image = x; count_in_a = 1; count_in_b = 0 }
    → IsNextImage a b next
image_of_first_alone [] b x each some none is next e = absurd (omega arith)
image_of_first_alone (x ∷ xs) (y ∷ ys) z each some none is next e = absurd (omega arith)
image_of_first_alone (x ∷ xs) [] z each some none is next e =
    let e' : next ≡ record { image = x; count_in_a = 1; count_in_b = 0 } = e ∙ (λ i. record { image = is i; count_in_a = 1; count_in_b = 0 }) in
    subst (λ (n : NextImage). IsNextImage (x ∷ xs) [] n) (sym e') (record {
      count_in_a = omega arith;
      count_in_b = omega arith;
      some = omega arith;
      ahead = λ others h. first_image_ahead x xs [] others each.0 (λ n p. no_images_rise (Some x.digest)) h;
    })

pub image_of_second_alone : (a b : List ImageCounts) (y : ImageCounts) → AllByRecursion IsValidImage b → 0 < length b
    → length a ≡ 0 → y ≡ get_or b 0 y → (next : NextImage) → next ≡ record { image = y; count_in_a = 0; count_in_b = 1 }
    → IsNextImage a b next
image_of_second_alone a [] y each some none is next e = absurd (omega arith)
image_of_second_alone (x ∷ xs) (y ∷ ys) z each some none is next e = absurd (omega arith)
image_of_second_alone [] (y ∷ ys) z each some none is next e =
    let e' : next ≡ record { image = y; count_in_a = 0; count_in_b = 1 } = e ∙ (λ i. record { image = is i; count_in_a = 0; count_in_b = 1 }) in
    subst (λ (n : NextImage). IsNextImage [] (y ∷ ys) n) (sym e') (record {
      count_in_a = omega arith;
      count_in_b = omega arith;
      some = omega arith;
      ahead = λ others h. second_image_ahead y [] ys others each.0 (λ n p. no_images_rise (Some y.digest)) h;
    })

pub image_of_first : (a b : List ImageCounts) (x y : ImageCounts) → AllByRecursion IsValidImage a → 0 < length a
    → 0 < length b → x ≡ get_or a 0 x → y ≡ get_or b 0 y → is_before x.digest y.digest ≡ true
    → (next : NextImage) → next ≡ record { image = x; count_in_a = 1; count_in_b = 0 } → IsNextImage a b next
image_of_first [] b x y each some other is at less next e = absurd (omega arith)
image_of_first (x ∷ xs) [] z w each some other is at less next e = absurd (omega arith)
image_of_first (x ∷ xs) (y ∷ ys) z w each some other is at less next e =
    let e' : next ≡ record { image = x; count_in_a = 1; count_in_b = 0 } = e ∙ (λ i. record { image = is i; count_in_a = 1; count_in_b = 0 }) in
    let before : is_before x.digest y.digest ≡ true = (λ i. is_before ((sym is) i).digest ((sym at) i).digest) ∙ less in
    subst (λ (n : NextImage). IsNextImage (x ∷ xs) (y ∷ ys) n) (sym e') (record {
      count_in_a = omega arith;
      count_in_b = omega arith;
      some = omega arith;
      ahead = λ others h. first_image_ahead x xs (y ∷ ys) others each.0 (λ n p. images_raised n x.digest y ys p before) h;
    })

pub image_of_second : (a b : List ImageCounts) (x y : ImageCounts) → AllByRecursion IsValidImage b → 0 < length a
    → 0 < length b → x ≡ get_or a 0 x → y ≡ get_or b 0 y → is_before y.digest x.digest ≡ true
    → (next : NextImage) → next ≡ record { image = y; count_in_a = 0; count_in_b = 1 } → IsNextImage a b next
image_of_second [] b x y each some other is at less next e = absurd (omega arith)
image_of_second (x ∷ xs) [] z w each some other is at less next e = absurd (omega arith)
image_of_second (x ∷ xs) (y ∷ ys) z w each some other is at less next e =
    let e' : next ≡ record { image = y; count_in_a = 0; count_in_b = 1 } = e ∙ (λ i. record { image = at i; count_in_a = 0; count_in_b = 1 }) in
    let before : is_before y.digest x.digest ≡ true = (λ i. is_before ((sym at) i).digest ((sym is) i).digest) ∙ less in
    subst (λ (n : NextImage). IsNextImage (x ∷ xs) (y ∷ ys) n) (sym e') (record {
      count_in_a = omega arith;
      count_in_b = omega arith;
      some = omega arith;
      ahead = λ others h. second_image_ahead y (x ∷ xs) ys others each.0 (λ n p. images_raised n y.digest x xs p before) h;
    })

pub image_of_both : (a b : List ImageCounts) (x y sum : ImageCounts) → AllByRecursion IsValidImage a → AllByRecursion IsValidImage b
    → 0 < length a → 0 < length b → x ≡ get_or a 0 x → y ≡ get_or b 0 y → is_before x.digest y.digest ≡ false
    → is_before y.digest x.digest ≡ false → sum.digest ≡ x.digest → sum.path ≡ min_text x.path y.path
    → IsSumOfCounts x.addresses y.addresses sum.addresses → IsSumOfNames x.functions y.functions sum.functions
    → AreNamesOf sum.nodes sum.functions → AreValidNodes sum.nodes → IsSumOfCallTrees x.nodes y.nodes sum.nodes
    → IsNextImage a b (record { image = sum; count_in_a = 1; count_in_b = 1 })
image_of_both [] b x y sum each also some other is at first second digest path counts names of tree nodes = absurd (omega arith)
image_of_both (x ∷ xs) [] z w sum each also some other is at first second digest path counts names of tree nodes = absurd (omega arith)
image_of_both (x ∷ xs) (y ∷ ys) z w sum each also some other is at first second digest path counts names of tree nodes = record {
  count_in_a = omega arith;
  count_in_b = omega arith;
  some = omega arith;
  ahead = λ others h. both_images_ahead x y sum xs ys others each.0 also.0
      (ap (λ (i : ImageCounts). i.digest) (sym is) ∙ same_place z.digest w.digest first second
      ∙ ap (λ (i : ImageCounts). i.digest) at)
      (digest ∙ ap (λ (i : ImageCounts). i.digest) is)
      (path ∙ (λ i. min_text (is i).path (at i).path))
      (subst (λ (i : ImageCounts). IsSumOfCounts x.addresses i.addresses sum.addresses) at
      (subst (λ (i : ImageCounts). IsSumOfCounts i.addresses w.addresses sum.addresses) is counts))
      (subst (λ (i : ImageCounts). IsSumOfNames x.functions i.functions sum.functions) at
      (subst (λ (i : ImageCounts). IsSumOfNames i.functions w.functions sum.functions) is names)) of tree
      (subst (λ (i : ImageCounts). IsSumOfCallTrees x.nodes i.nodes sum.nodes) at
      (subst (λ (i : ImageCounts). IsSumOfCallTrees i.nodes w.nodes sum.nodes) is nodes)) h;
}

-- ---- what is refused

text_is_itself : (s : List ℕ) → bytes_eq s s ≡ true
text_is_itself s = (bytes_decides s s).1 refl

at_itself : (digest other : List ℕ) (n : ℕ) → digest ≡ other → cond (bytes_eq digest other) n 0 ≡ n
at_itself digest other n e = ap (λ (t : Bool). cond t n 0) (ap (bytes_eq digest) (sym e) ∙ text_is_itself digest)

-- a number of two images that stand first is one of both lists
great_here : (count : ImageCounts → ℕ) (x y z w : ImageCounts) (n m : ℕ) → z ≡ x → w ≡ y → x.digest ≡ y.digest
    → 2 ^ 64 ≤ count z + count w
    → 2 ^ 64 ≤ (cond (bytes_eq x.digest x.digest) (count x) 0 + n) + (cond (bytes_eq y.digest x.digest) (count y) 0 + m)
great_here count x y z w n m is at one h =
    let p = at_itself x.digest x.digest (count x) refl in
    let q = at_itself y.digest x.digest (count y) (sym one) in
    let r = ap count is in
    let s = ap count at in
    omega (arith, p, q, r, s, h)

pub no_sum_of_first : (a b : List ImageCounts) (x y : ImageCounts) (error : SumError) → 0 < length a → 0 < length b
    → x ≡ get_or a 0 x → y ≡ get_or b 0 y → is_before x.digest y.digest ≡ false → is_before y.digest x.digest ≡ false
    → ImageHasNoSum error x y → ImagesHaveNoSum error a b
no_sum_of_first [] b x y error some other is at first second h = absurd (omega arith)
no_sum_of_first (x ∷ xs) [] z w error some other is at first second h = absurd (omega arith)
no_sum_of_first (x ∷ xs) (y ∷ ys) z w OutOfMemory some other is at first second h = tt
no_sum_of_first (x ∷ xs) (y ∷ ys) z w Runs some other is at first second h = h
no_sum_of_first (x ∷ xs) (y ∷ ys) z w (Names f) some other is at first second h =
    let one : x.digest ≡ y.digest = ap (λ (i : ImageCounts). i.digest) (sym is)
    ∙ same_place z.digest w.digest first second ∙ ap (λ (i : ImageCounts). i.digest) at in (
      x.digest,
      h.0,
      h.1,
      inl (refl, subst (λ (i : ImageCounts). HasName f h.0 i.functions) is h.2),
      inl (sym one, subst (λ (i : ImageCounts). HasName f h.1 i.functions) at h.3),
      h.4,
    )
no_sum_of_first (x ∷ xs) (y ∷ ys) z w (Count n) some other is at first second h =
    let one : x.digest ≡ y.digest = ap (λ (i : ImageCounts). i.digest) (sym is)
    ∙ same_place z.digest w.digest first second ∙ ap (λ (i : ImageCounts). i.digest) at in
    (x.digest, great_here (λ i. executed_at n i.addresses) x y z w (executed_in x.digest n xs) (executed_in x.digest n ys) is at one h)
no_sum_of_first (x ∷ xs) (y ∷ ys) z w (Node f) some other is at first second h =
    let one : x.digest ≡ y.digest = ap (λ (i : ImageCounts). i.digest) (sym is)
    ∙ same_place z.digest w.digest first second ∙ ap (λ (i : ImageCounts). i.digest) at in (
      x.digest,
      h.0,
      h.1,
      elim h.2 [
        | inl k ↦ inl (great_here (λ i. calls_at h.0 i.nodes) x y z w (calls_in_image x.digest h.0 xs) (calls_in_image x.digest h.0 ys) is at one k)
        | inr k ↦ inr (great_here (λ i. steps_at h.0 i.nodes) x y z w (steps_in x.digest h.0 xs) (steps_in x.digest h.0 ys) is at one k)
      ],
    )

-- what is refused of addresses, and of spots, is refused of their images
pub no_sum_of_counts : (error : SumError) (a b : ImageCounts) → CountsHaveNoSum error a.addresses b.addresses → ImageHasNoSum error a b
no_sum_of_counts OutOfMemory a b h = tt
no_sum_of_counts (Count n) a b h = h
no_sum_of_counts (Node f) a b h = absurd h
no_sum_of_counts (Names f) a b h = absurd h
no_sum_of_counts Runs a b h = h

no_sum_of_names : (error : SumError) (a b : ImageCounts) → IsErrorOfNames error a.functions b.functions → ImageHasNoSum error a b
no_sum_of_names OutOfMemory a b h = tt
no_sum_of_names (Count n) a b h = absurd h
no_sum_of_names (Node f) a b h = absurd h
no_sum_of_names (Names f) a b h = h
no_sum_of_names Runs a b h = h

pub no_sum_of_named : (error : SumError) (a b : ImageCounts) (ns ms : List FunctionName) → ns ≡ a.functions
    → ms ≡ b.functions → IsErrorOfNames error ns ms → ImageHasNoSum error a b
no_sum_of_named error a b ns ms p q h = no_sum_of_names error a b
    (subst (λ (xs : List FunctionName). IsErrorOfNames error a.functions xs) q
    (subst (λ (xs : List FunctionName). IsErrorOfNames error xs ms) p h))

pub no_sum_of_spots : (why : CallTreeSumError) (a b : ImageCounts) → IsOverflowOfTrees why a.nodes b.nodes
    → ImageHasNoSum (sum_error_of why) a b
no_sum_of_spots nodes.OutOfMemory a b h = tt
no_sum_of_spots (nodes.Count f) a b h = h

-- ---- spots of a sum

pub all_come_to : (ss : List ACallNode) → AllByRecursion IsValidNode ss → HasCalls ss
all_come_to [] h = tt
all_come_to (s ∷ ss) h = (h.0.some, all_come_to ss h.1)

come_and_fit : (ss : List ACallNode) → HasCalls ss → AllByRecursion FitsFields ss → AllByRecursion IsValidNode ss
come_and_fit [] h k = tt
come_and_fit (s ∷ ss) h k = (
  record {
    depth = k.0.depth;
    function = k.0.function;
    some = h.0;
    calls = k.0.calls;
    steps = k.0.steps;
  },
  come_and_fit ss h.1 k.1,
)

pub are_spots : (a b xs ys sum : List ACallNode) → AreValidNodes a → AreValidNodes b → xs ≡ a → ys ≡ b → IsSumOfCallTrees xs ys sum
    → AllByRecursion FitsFields sum → AreValidNodes sum
are_spots a b xs ys sum h k is at sums fits =
    let some = sums.some (subst (λ (ss : List ACallNode). HasCalls ss) (sym is) (all_come_to a h.each))
    (subst (λ (ss : List ACallNode). HasCalls ss) (sym at) (all_come_to b k.each)) in
    record { each = come_and_fit sum some fits; tree = sums.tree }

-- ---- the loop: what both lists have ahead

pub all_images_behind : (n : ℕ) (is : List ImageCounts) → AllByRecursion IsValidImage is → AllByRecursion IsValidImage (drop n is)
all_images_behind zero is h = h
all_images_behind (suc n) [] h = h
all_images_behind (suc n) (i ∷ is) h = all_images_behind n is h.1

some_images_left : (n : ℕ) (digest : List ℕ) (address : ℕ) (is : List ImageCounts)
    → executed_in digest address (drop n is) ≤ executed_in digest address is
some_images_left zero digest address is = omega arith
some_images_left (suc n) digest address [] = omega arith
some_images_left (suc n) digest address (i ∷ is) = let h = some_images_left n digest address is in omega (arith, h)

some_arrivals_left : (n : ℕ) (digest path : List ℕ) (is : List ImageCounts)
    → calls_in_image digest path (drop n is) ≤ calls_in_image digest path is
some_arrivals_left zero digest path is = omega arith
some_arrivals_left (suc n) digest path [] = omega arith
some_arrivals_left (suc n) digest path (i ∷ is) = let h = some_arrivals_left n digest path is in omega (arith, h)

some_steps_left : (n : ℕ) (digest path : List ℕ) (is : List ImageCounts)
    → steps_in digest path (drop n is) ≤ steps_in digest path is
some_steps_left zero digest path is = omega arith
some_steps_left (suc n) digest path [] = omega arith
some_steps_left (suc n) digest path (i ∷ is) = let h = some_steps_left n digest path is in omega (arith, h)

name_in_rest : (n f : ℕ) (digest name : List ℕ) (is : List ImageCounts) → HasNameIn digest f name (drop n is)
    → HasNameIn digest f name is
name_in_rest zero f digest name is h = h
name_in_rest (suc n) f digest name [] h = h
name_in_rest (suc n) f digest name (i ∷ is) h = inr (name_in_rest n f digest name is h)

pub no_sum_of_rest : (n m : ℕ) (a b : List ImageCounts) (error : SumError)
    → ImagesHaveNoSum error (drop n a) (drop m b) → ImagesHaveNoSum error a b
no_sum_of_rest n m a b OutOfMemory h = tt
no_sum_of_rest n m a b (Count address) h =
    let k = h.1 in
    let p = some_images_left n h.0 address a in
    let q = some_images_left m h.0 address b in
    (h.0, omega (arith, k, p, q))
no_sum_of_rest n m a b (Node f) h = (
  h.0,
  h.1,
  h.2,
  elim h.3 [
    | inl k ↦
        let p = some_arrivals_left n h.0 h.1 a in
        let q = some_arrivals_left m h.0 h.1 b in
        inl (omega (arith, k, p, q))
    | inr k ↦
        let p = some_steps_left n h.0 h.1 a in
        let q = some_steps_left m h.0 h.1 b in
        inr (omega (arith, k, p, q))
  ],
)
no_sum_of_rest n m a b Runs h = h
no_sum_of_rest n m a b (Names f) h =
    (h.0, h.1, h.2, name_in_rest n f h.0 h.1 a h.3, name_in_rest m f h.0 h.2 b h.4, h.5)

none_add_up : ImagesAddUp [] [] []
none_add_up = record {
  each = tt;
  rising = λ last p q. p;
  executed = λ digest address. refl;
  taken = λ digest address. refl;
  paths = λ digest. refl;
  agree = λ last p q digest function. tt;
  names = λ digest function. refl;
  calls = λ digest path. refl;
  steps = λ digest path. refl;
}

-- at the end what stands there is the sum
pub images_summed : (a b sums : List ImageCounts) (n m : ℕ) → length a ≤ n → length b ≤ m
    → ((others : List ImageCounts) → ImagesAddUp (drop n a) (drop m b) others → ImagesAddUp a b (sums ++ others))
    → ImagesAddUp a b sums
images_summed a b sums n m p q ahead =
    let e = drop_all n a p in
    let f = drop_all m b q in
    let none : ImagesAddUp (drop n a) (drop m b) [] =
    subst (λ (s : List ImageCounts). ImagesAddUp s (drop m b) []) (sym e)
    (subst (λ (s : List ImageCounts). ImagesAddUp [] s []) (sym f) none_add_up) in
    subst (λ (s : List ImageCounts). ImagesAddUp a b s) (append-nil sums) (ahead [] none)

-- tables add up as their images do
pub tables_add_up : (a b sum : CountTable) → IsValidTable a → IsValidTable b → ImagesAddUp a.images b.images sum.images
    → length sum.images < 2 ^ 64 → sum.runs < 2 ^ 64 → sum.runs ≡ a.runs + b.runs → IsSumOfTables a b sum
tables_add_up a b sum first second up few fits runs = record {
  table = record { images = up.each; rising = up.rising None first.rising second.rising; few = few; runs = fits };
  executed = up.executed;
  taken = up.taken;
  paths = up.paths;
  agree = up.agree None first.rising second.rising;
  names = up.names;
  calls = up.calls;
  steps = up.steps;
  runs = runs;
}
