-- The first of a sum of names, in each of the cases; and names are told apart by their functions.
use Rattle.std.proofs.Common.{◌≡◌, ◌∙◌, ◌==◌, ◌+◌, ◌<◌, ◌≤◌, ℕ, zero, suc, Bool, true, false, cond, List, [], ◌∷◌, ◌++◌, Option, Some, None, length, drop, get_or, refl, sym, ap, subst, append-nil, arith, inl, inr}
use Rattle.std.proofs.lemmas.Bool.{and_parts, and_from, cases_Bool, eqb-true}
use Rattle.std.proofs.lemmas.Bool.Decides.{nat_tests}
use Rattle.std.proofs.lemmas.List.{drop_all}
use Rattle.std.specs.Prelude.{nat_le}
use Rattle.std.specs.List.{AllByRecursion}
use Rattle.rv_count_tables.specs.declared.table.FunctionName.{FunctionName}
use Rattle.rv_count_tables.specs.declared.union_of_names.NextName.{NextName}
use Rattle.rv_count_tables.specs.Table.{name_at, functions_increase_from, min_text_of, AreValidNames, IsValidName}
use Rattle.rv_count_tables.specs.Sum.{NamesAgree, HasName, IsSumOfNames, IsErrorOfNames}
use Rattle.rv_count_tables.specs.declared.sum.SumError.{SumError}
use Rattle.rv_count_tables.specs.declared.sum.SumError.TheVariants.{OutOfMemory, Count, Node, Names, Runs}
use Rattle.rv_count_tables.specs.SumSteps.{NamesAddUp, IsNextName}
use Rattle.rv_count_tables.proofs.AddingImages.{agree_with_none, least_is, path_parts}
use Rattle.rv_count_tables.proofs.Paths.{any_first, second_first}
use Rattle.rv_count_tables.proofs.Told.{elsewhere, here}

-- ---- functions in their order

pub low : (lowest : ℕ) (n : FunctionName) (ns : List FunctionName) → functions_increase_from lowest (n ∷ ns) ≡ true → lowest ≤ n.function
unfolding functions_increase_from
low lowest n ns h = let p = (and_parts (nat_le lowest n.function) (functions_increase_from (n.function + 1) ns) h).0 in grind (arith, nat_tests)

pub behind : (lowest : ℕ) (n : FunctionName) (ns : List FunctionName) → functions_increase_from lowest (n ∷ ns) ≡ true
    → functions_increase_from (n.function + 1) ns ≡ true
unfolding functions_increase_from
behind lowest n ns h = (and_parts (nat_le lowest n.function) (functions_increase_from (n.function + 1) ns) h).1

pub rises : (lowest : ℕ) (n : FunctionName) (ns : List FunctionName) → lowest ≤ n.function
    → functions_increase_from (n.function + 1) ns ≡ true → functions_increase_from lowest (n ∷ ns) ≡ true
unfolding functions_increase_from
rises lowest n ns under h =
    let t : nat_le lowest n.function ≡ true = grind (arith, nat_tests) in
    and_from (nat_le lowest n.function) (functions_increase_from (n.function + 1) ns) t h

raised : (lowest m : ℕ) (n : FunctionName) (ns : List FunctionName) → functions_increase_from lowest (n ∷ ns) ≡ true
    → m ≤ n.function → functions_increase_from m (n ∷ ns) ≡ true
raised lowest m n ns h under = rises m n ns under (behind lowest n ns h)

none_rises : (n : ℕ) → functions_increase_from n [] ≡ true
unfolding functions_increase_from
none_rises n = refl

pub none_below : (ns : List FunctionName) (lowest f : ℕ) → functions_increase_from lowest ns ≡ true → f < lowest → name_at f ns ≡ None
none_below [] lowest f h under = refl
none_below (n ∷ ns) lowest f h under =
    let l = low lowest n ns h in
    ap (λ (t : Bool). min_text_of (cond t (Some n.name) None) (name_at f ns)) (elsewhere f n.function (omega arith))
    ∙ none_below ns (n.function + 1) f (behind lowest n ns h) (omega arith)

-- ---- names in which both lists agree

passed_name : (x : FunctionName) (xs : List FunctionName) (f : ℕ) → (x.function == f) ≡ false → name_at f (x ∷ xs) ≡ name_at f xs
passed_name x xs f t = ap (λ (b : Bool). min_text_of (cond b (Some x.name) None) (name_at f xs)) t

its_name : (x : FunctionName) (xs : List FunctionName) (f : ℕ) → functions_increase_from (x.function + 1) xs ≡ true
    → (x.function == f) ≡ true → name_at f (x ∷ xs) ≡ Some x.name
its_name x xs f h t =
    let e = eqb-true x.function f t in
    ap (λ (b : Bool). min_text_of (cond b (Some x.name) None) (name_at f xs)) t
    ∙ ap (min_text_of (Some x.name)) (none_below xs (x.function + 1) f h (omega (arith, e)))

first_agrees : (x : FunctionName) (xs b : List FunctionName) (f : ℕ) → functions_increase_from (x.function + 1) b ≡ true
    → NamesAgree (name_at f xs) (name_at f b) → NamesAgree (name_at f (x ∷ xs)) (name_at f b)
first_agrees x xs b f h k = elim (cases_Bool (x.function == f)) [
  | inl t ↦
      let e = eqb-true x.function f t in
      subst (NamesAgree (name_at f (x ∷ xs))) (sym (none_below b (x.function + 1) f h (omega (arith, e)))) (agree_with_none (name_at f (x ∷ xs)))
  | inr t ↦ subst (λ (o : Option (List ℕ)). NamesAgree o (name_at f b)) (sym (passed_name x xs f t)) k
]

second_agrees : (y : FunctionName) (a ys : List FunctionName) (f : ℕ) → functions_increase_from (y.function + 1) a ≡ true
    → NamesAgree (name_at f a) (name_at f ys) → NamesAgree (name_at f a) (name_at f (y ∷ ys))
second_agrees y a ys f h k = elim (cases_Bool (y.function == f)) [
  | inl t ↦
      let e = eqb-true y.function f t in
      subst (λ (o : Option (List ℕ)). NamesAgree o (name_at f (y ∷ ys))) (sym (none_below a (y.function + 1) f h (omega (arith, e)))) tt
  | inr t ↦ subst (NamesAgree (name_at f a)) (sym (passed_name y ys f t)) k
]

both_agree : (x y : FunctionName) (xs ys : List FunctionName) (f : ℕ) → x.function ≡ y.function → x.name ≡ y.name
    → functions_increase_from (x.function + 1) xs ≡ true → functions_increase_from (y.function + 1) ys ≡ true → NamesAgree (name_at f xs) (name_at f ys)
    → NamesAgree (name_at f (x ∷ xs)) (name_at f (y ∷ ys))
both_agree x y xs ys f one name h k others = elim (cases_Bool (x.function == f)) [
  | inl t ↦
      subst (λ (o : Option (List ℕ)). NamesAgree o (name_at f (y ∷ ys))) (sym (its_name x xs f h t))
      (subst (NamesAgree (Some x.name)) (sym (its_name y ys f k (ap (λ (n : ℕ). n == f) (sym one) ∙ t))) name)
  | inr t ↦
      subst (λ (o : Option (List ℕ)). NamesAgree o (name_at f (y ∷ ys))) (sym (passed_name x xs f t))
      (subst (NamesAgree (name_at f xs)) (sym (passed_name y ys f (ap (λ (n : ℕ). n == f) (sym one) ∙ t))) others)
]

-- ---- a name ahead of the others

-- a name of the first list alone
first_ahead : (x : FunctionName) (xs b others : List FunctionName) → IsValidName x
    → ((lowest : ℕ) → functions_increase_from lowest b ≡ true → functions_increase_from (x.function + 1) b ≡ true)
    → NamesAddUp xs b others → NamesAddUp (x ∷ xs) b (x ∷ others)
first_ahead x xs b others named above h = record {
  each = (named, h.each);
  rising = λ lowest p q. rises lowest x others (low lowest x xs p)
      (h.rising (x.function + 1) (behind lowest x xs p) (above lowest q));
  agree = λ lowest p q f. first_agrees x xs b f (above lowest q)
      (h.agree (x.function + 1) (behind lowest x xs p) (above lowest q) f);
  names = λ f. ap (min_text_of (cond (x.function == f) (Some x.name) None)) (h.names f)
      ∙ sym (any_first (cond (x.function == f) (Some x.name) None) (name_at f xs) (name_at f b));
}

-- a name of the second list alone
second_ahead : (y : FunctionName) (a ys others : List FunctionName) → IsValidName y
    → ((lowest : ℕ) → functions_increase_from lowest a ≡ true → functions_increase_from (y.function + 1) a ≡ true)
    → NamesAddUp a ys others → NamesAddUp a (y ∷ ys) (y ∷ others)
second_ahead y a ys others named above h = record {
  each = (named, h.each);
  rising = λ lowest p q. rises lowest y others (low lowest y ys q)
      (h.rising (y.function + 1) (above lowest p) (behind lowest y ys q));
  agree = λ lowest p q f. second_agrees y a ys f (above lowest p)
      (h.agree (y.function + 1) (above lowest p) (behind lowest y ys q) f);
  names = λ f. ap (min_text_of (cond (y.function == f) (Some y.name) None)) (h.names f)
      ∙ second_first (name_at f a) (cond (y.function == f) (Some y.name) None) (name_at f ys);
}

-- a name of both lists
both_ahead : (x y : FunctionName) (xs ys others : List FunctionName) → IsValidName x → x.function ≡ y.function → x.name ≡ y.name
    → NamesAddUp xs ys others → NamesAddUp (x ∷ xs) (y ∷ ys) (x ∷ others)
both_ahead x y xs ys others named one name h = record {
  each = (named, h.each);
  rising = λ lowest p q.
      rises lowest x others (low lowest x xs p)
      (h.rising (x.function + 1) (behind lowest x xs p)
      (ap (λ (n : ℕ). functions_increase_from (n + 1) ys) one ∙ behind lowest y ys q));
  agree = λ lowest p q f. both_agree x y xs ys f one name (behind lowest x xs p) (behind lowest y ys q)
      (h.agree (x.function + 1) (behind lowest x xs p) (ap (λ (n : ℕ). functions_increase_from (n + 1) ys) one ∙ behind lowest y ys q) f);
  names = λ f. ap (λ (s : List ℕ). min_text_of (cond (x.function == f) (Some s) None) (name_at f others))
      (least_is (λ s. x.name ≡ s) x.name y.name refl name)
      ∙ path_parts (x.function == f) (y.function == f) x.name y.name _ (name_at f xs) (name_at f ys)
      (ap (λ (n : ℕ). n == f) one) (h.names f);
}

-- ---- the first of a sum in each case of `next_name`

pub name_of_first_alone : (a b : List FunctionName) (x : FunctionName) → AllByRecursion IsValidName a → 0 < length a
    → length b ≡ 0 → x ≡ get_or a 0 x → (next : NextName) → next ≡ record { name = x; count_in_a = 1; count_in_b = 0 }
    → IsNextName a b next
name_of_first_alone [] b x each some none is next e = absurd (omega arith)
name_of_first_alone (x ∷ xs) (y ∷ ys) z each some none is next e = absurd (omega arith)
name_of_first_alone (x ∷ xs) [] z each some none is next e =
    let e' : next ≡ record { name = x; count_in_a = 1; count_in_b = 0 } = e ∙ (λ i. record { name = is i; count_in_a = 1; count_in_b = 0 }) in
    subst (λ (n : NextName). IsNextName (x ∷ xs) [] n) (sym e') (record {
      count_in_a = omega arith;
      count_in_b = omega arith;
      some = omega arith;
      ahead = λ others h. first_ahead x xs [] others each.0 (λ n p. none_rises (x.function + 1)) h;
    })

pub name_of_second_alone : (a b : List FunctionName) (y : FunctionName) → AllByRecursion IsValidName b → 0 < length b
    → length a ≡ 0 → y ≡ get_or b 0 y → (next : NextName) → next ≡ record { name = y; count_in_a = 0; count_in_b = 1 }
    → IsNextName a b next
name_of_second_alone a [] y each some none is next e = absurd (omega arith)
name_of_second_alone (x ∷ xs) (y ∷ ys) z each some none is next e = absurd (omega arith)
name_of_second_alone [] (y ∷ ys) z each some none is next e =
    let e' : next ≡ record { name = y; count_in_a = 0; count_in_b = 1 } = e ∙ (λ i. record { name = is i; count_in_a = 0; count_in_b = 1 }) in
    subst (λ (n : NextName). IsNextName [] (y ∷ ys) n) (sym e') (record {
      count_in_a = omega arith;
      count_in_b = omega arith;
      some = omega arith;
      ahead = λ others h. second_ahead y [] ys others each.0 (λ n p. none_rises (y.function + 1)) h;
    })

pub name_of_first : (a b : List FunctionName) (x y : FunctionName) → AllByRecursion IsValidName a → 0 < length a
    → 0 < length b → x ≡ get_or a 0 x → y ≡ get_or b 0 y → x.function < y.function
    → (next : NextName) → next ≡ record { name = x; count_in_a = 1; count_in_b = 0 } → IsNextName a b next
name_of_first [] b x y each some other is at less next e = absurd (omega arith)
name_of_first (x ∷ xs) [] z w each some other is at less next e = absurd (omega arith)
name_of_first (x ∷ xs) (y ∷ ys) z w each some other is at less next e =
    let e' : next ≡ record { name = x; count_in_a = 1; count_in_b = 0 } = e ∙ (λ i. record { name = is i; count_in_a = 1; count_in_b = 0 }) in
    let f = ap (λ (n : FunctionName). n.function) is in
    let g = ap (λ (n : FunctionName). n.function) at in
    subst (λ (n : NextName). IsNextName (x ∷ xs) (y ∷ ys) n) (sym e') (record {
      count_in_a = omega arith;
      count_in_b = omega arith;
      some = omega arith;
      ahead = λ others h. first_ahead x xs (y ∷ ys) others each.0
          (λ n p. raised n (x.function + 1) y ys p (omega (arith, f, g, less))) h;
    })

pub name_of_second : (a b : List FunctionName) (x y : FunctionName) → AllByRecursion IsValidName b → 0 < length a
    → 0 < length b → x ≡ get_or a 0 x → y ≡ get_or b 0 y → y.function < x.function
    → (next : NextName) → next ≡ record { name = y; count_in_a = 0; count_in_b = 1 } → IsNextName a b next
name_of_second [] b x y each some other is at less next e = absurd (omega arith)
name_of_second (x ∷ xs) [] z w each some other is at less next e = absurd (omega arith)
name_of_second (x ∷ xs) (y ∷ ys) z w each some other is at less next e =
    let e' : next ≡ record { name = y; count_in_a = 0; count_in_b = 1 } = e ∙ (λ i. record { name = at i; count_in_a = 0; count_in_b = 1 }) in
    let f = ap (λ (n : FunctionName). n.function) is in
    let g = ap (λ (n : FunctionName). n.function) at in
    subst (λ (n : NextName). IsNextName (x ∷ xs) (y ∷ ys) n) (sym e') (record {
      count_in_a = omega arith;
      count_in_b = omega arith;
      some = omega arith;
      ahead = λ others h. second_ahead y (x ∷ xs) ys others each.0
          (λ n p. raised n (y.function + 1) x xs p (omega (arith, f, g, less))) h;
    })

pub name_of_both : (a b : List FunctionName) (x y : FunctionName) → AllByRecursion IsValidName a
    → 0 < length a → 0 < length b → x ≡ get_or a 0 x → y ≡ get_or b 0 y → x.function ≡ y.function → x.name ≡ y.name
    → (next : NextName) → next ≡ record { name = x; count_in_a = 1; count_in_b = 1 } → IsNextName a b next
name_of_both [] b x y each some other is at function name next e = absurd (omega arith)
name_of_both (x ∷ xs) [] z w each some other is at function name next e = absurd (omega arith)
name_of_both (x ∷ xs) (y ∷ ys) z w each some other is at function name next e =
    let e' : next ≡ record { name = x; count_in_a = 1; count_in_b = 1 } = e ∙ (λ i. record { name = is i; count_in_a = 1; count_in_b = 1 }) in
    subst (λ (n : NextName). IsNextName (x ∷ xs) (y ∷ ys) n) (sym e') (record {
      count_in_a = omega arith;
      count_in_b = omega arith;
      some = omega arith;
      ahead = λ others h. both_ahead x y xs ys others each.0
          (ap (λ (n : FunctionName). n.function) (sym is) ∙ function ∙ ap (λ (n : FunctionName). n.function) at)
          (ap (λ (n : FunctionName). n.name) (sym is) ∙ name ∙ ap (λ (n : FunctionName). n.name) at) h;
    })

-- two names of one function, at the front of both
pub other_names_first : (a b : List FunctionName) (x y : FunctionName) → 0 < length a → 0 < length b → x ≡ get_or a 0 x
    → y ≡ get_or b 0 y → x.function ≡ y.function → (x.name ≡ y.name → ⊥) → IsErrorOfNames (Names x.function) a b
other_names_first [] b x y some other is at function differ = absurd (omega arith)
other_names_first (x ∷ xs) [] z w some other is at function differ = absurd (omega arith)
other_names_first (x ∷ xs) (y ∷ ys) z w some other is at function differ = (
  z.name,
  w.name,
  inl (ap (λ (n : FunctionName). n.function) (sym is), ap (λ (n : FunctionName). n.name) (sym is)),
  inl (ap (λ (n : FunctionName). n.function) (sym at) ∙ sym function, ap (λ (n : FunctionName). n.name) (sym at)),
  differ,
)

name_in_rest : (n f : ℕ) (name : List ℕ) (ns : List FunctionName) → HasName f name (drop n ns) → HasName f name ns
name_in_rest zero f name ns h = h
name_in_rest (suc n) f name [] h = h
name_in_rest (suc n) f name (m ∷ ms) h = inr (name_in_rest n f name ms h)

pub no_sum_of_rest : (n m : ℕ) (a b : List FunctionName) (error : SumError) → IsErrorOfNames error (drop n a) (drop m b)
    → IsErrorOfNames error a b
no_sum_of_rest n m a b OutOfMemory h = tt
no_sum_of_rest n m a b (Count address) h = h
no_sum_of_rest n m a b (Node function) h = h
no_sum_of_rest n m a b Runs h = h
no_sum_of_rest n m a b (Names f) h = (h.0, h.1, name_in_rest n f h.0 a h.2, name_in_rest m f h.1 b h.3, h.4)

-- ---- the loop: what both lists have ahead

pub all_behind : (n : ℕ) (ns : List FunctionName) → AllByRecursion IsValidName ns → AllByRecursion IsValidName (drop n ns)
all_behind zero ns h = h
all_behind (suc n) [] h = h
all_behind (suc n) (m ∷ ms) h = all_behind n ms h.1

none_add_up : NamesAddUp [] [] []
none_add_up = record { each = tt; rising = λ lowest p q. p; agree = λ lowest p q function. tt; names = λ function. refl }

-- at the end what stands there is the sum
pub names_summed : (a b sums : List FunctionName) (n m : ℕ) → AreValidNames a → AreValidNames b → length a ≤ n → length b ≤ m
    → ((others : List FunctionName) → NamesAddUp (drop n a) (drop m b) others → NamesAddUp a b (sums ++ others))
    → IsSumOfNames a b sums
names_summed a b sums n m x y p q ahead =
    let e = drop_all n a p in
    let f = drop_all m b q in
    let none : NamesAddUp (drop n a) (drop m b) [] =
    subst (λ (s : List FunctionName). NamesAddUp s (drop m b) []) (sym e)
    (subst (λ (s : List FunctionName). NamesAddUp [] s []) (sym f) none_add_up) in
    let all : NamesAddUp a b sums = subst (λ (s : List FunctionName). NamesAddUp a b s) (append-nil sums) (ahead [] none) in record {
      names = record { each = all.each; rising = all.rising 0 x.rising y.rising };
      agree = all.agree 0 x.rising y.rising;
      each = all.names;
    }

-- ---- one list has these names

first_named : (lowest : ℕ) (n : FunctionName) (ns : List FunctionName) → functions_increase_from lowest (n ∷ ns) ≡ true
    → name_at n.function (n ∷ ns) ≡ Some n.name
first_named lowest n ns h =
    ap (λ (t : Bool). min_text_of (cond t (Some n.name) None) (name_at n.function ns)) (here n.function)
    ∙ ap (min_text_of (Some n.name)) (none_below ns (n.function + 1) n.function (behind lowest n ns h) (omega arith))

-- the first function of one list is not below that of a list with the same names
not_lower : (n m : FunctionName) (ns ms : List FunctionName) (l k : ℕ) → functions_increase_from l (n ∷ ns) ≡ true
    → functions_increase_from k (m ∷ ms) ≡ true → name_at n.function (n ∷ ns) ≡ name_at n.function (m ∷ ms) → n.function < m.function → ⊥
not_lower n m ns ms l k h j e less =
    let none = none_below (m ∷ ms) m.function n.function (raised k m.function m ms j (omega arith)) less in
    let some = first_named l n ns h in
    let c : Some n.name ≡ None = sym some ∙ e ∙ none in absurd (cc)

one_function : (n m : FunctionName) (ns ms : List FunctionName) (l k : ℕ) → functions_increase_from l (n ∷ ns) ≡ true
    → functions_increase_from k (m ∷ ms) ≡ true → ((f : ℕ) → name_at f (n ∷ ns) ≡ name_at f (m ∷ ms)) → n.function ≡ m.function
one_function n m ns ms l k h j e =
    let not_less = not_lower n m ns ms l k h j (e n.function) in
    let not_more = not_lower m n ms ns k l j h (sym (e m.function)) in
    omega (arith, not_less, not_more)

some_is : (p q : List ℕ) → Some p ≡ Some q → p ≡ q
some_is p q e = cc

other_names : (n m : FunctionName) (ns ms : List FunctionName) (l k f : ℕ) → n ≡ m → functions_increase_from l (n ∷ ns) ≡ true
    → functions_increase_from k (m ∷ ms) ≡ true → name_at f (n ∷ ns) ≡ name_at f (m ∷ ms) → name_at f ns ≡ name_at f ms
other_names n m ns ms l k f same h j e = elim (cases_Bool (n.function == f)) [
  | inl t ↦
      let d : n.function ≡ f = eqb-true n.function f t in
      let g = ap (λ (x : FunctionName). x.function) same in
      none_below ns (n.function + 1) f (behind l n ns h) (omega (arith, d))
      ∙ sym (none_below ms (m.function + 1) f (behind k m ms j) (omega (arith, d, g)))
  | inr t ↦
      let g : (m.function == f) ≡ false = ap (λ (x : FunctionName). x.function == f) (sym same) ∙ t in
      sym (ap (λ (s : Bool). min_text_of (cond s (Some n.name) None) (name_at f ns)) t) ∙ e
      ∙ ap (λ (s : Bool). min_text_of (cond s (Some m.name) None) (name_at f ms)) g
]

one_list : (ns ms : List FunctionName) (l k : ℕ) → functions_increase_from l ns ≡ true → functions_increase_from k ms ≡ true
    → ((f : ℕ) → name_at f ns ≡ name_at f ms) → ns ≡ ms
one_list [] [] l k h j e = refl
one_list [] (m ∷ ms) l k h j e =
    let c : None ≡ Some m.name = e m.function ∙ first_named k m ms j in absurd (cc)
one_list (n ∷ ns) [] l k h j e =
    let c : None ≡ Some n.name = sym (e n.function) ∙ first_named l n ns h in absurd (cc)
one_list (n ∷ ns) (m ∷ ms) l k h j e =
    let f : n.function ≡ m.function = one_function n m ns ms l k h j e in
    let name = some_is n.name m.name (sym (first_named l n ns h) ∙ e n.function
    ∙ ap (λ (g : ℕ). name_at g (m ∷ ms)) f ∙ first_named k m ms j) in
    let one : n ≡ m = λ i. record { function = f i; name = name i } in
    let others = one_list ns ms (n.function + 1) (m.function + 1) (behind l n ns h) (behind k m ms j)
    (λ g. other_names n m ns ms l k g one h j (e g)) in
    λ i. one i ∷ others i

pub one_list_of_names : (ns ms : List FunctionName) → AreValidNames ns → AreValidNames ms
    → ((f : ℕ) → name_at f ns ≡ name_at f ms) → ns ≡ ms
one_list_of_names ns ms h k e = one_list ns ms 0 0 h.rising k.rising e
