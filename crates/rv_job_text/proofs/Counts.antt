-- Rows are counted, and the kinds of failures told in brackets.
use Rattle.std.proofs.Common.{◌≡◌, ◌∙◌, sym, ap, ℕ, ◌+◌, ◌<◌, ◌≤◌, List, [], ◌∷◌, ◌++◌, get_or, length, take}
use Rattle.std.proofs.Common.{Bool, true, false, cond, add-one, arith, ne_eqb, append-nil, append_assoc, ◌==◌}
use Rattle.std.proofs.Common.{length-append}
use Rattle.std.specs.Prelude.{codes, count_by, not}
use Rattle.std.specs.List.{flat_map}
use Rattle.std.specs.Fmt.{decimal}
use Rattle.std.proofs.lemmas.Bool.{true≢false}
use Rattle.std.proofs.lemmas.Grind.{flat_map-append}
use Rattle.std.proofs.lemmas.List.{length-take, take_all}
use Rattle.std.proofs.lemmas.List.Sums.{count_by-le-length, count_by_more_no, count_by_more_yes}
use Rattle.rv_expect.specs.declared.failure_kind.FailureKind.{FailureKind}
use Rattle.rv_expect.specs.FailureKinds.{failure_kind_at}
use Rattle.rv_job_text.specs.TotalsLine.{bracket_text, failure_kind_name, failure_texts_below, open_bracket_text}
use Rattle.rv_text.proofs.Public.{more}

-- ---- the elements that pass a test, among so many

module _ {X : Type 0} (p : X → Bool) (xs : List X) (i count : ℕ) (so_far : count ≡ count_by p (take i xs)) where
  pub counted_few : count ≤ i
  counted_few = omega (arith, count_by-le-length p (take i xs), length-take i xs)

  pub counted_all : length xs ≤ i → count ≡ count_by p xs
  counted_all past = so_far ∙ ap (count_by p) (take_all i xs past)

  -- one more of them
  module _ (d : X) (below : i < length xs) (passes : Bool) (tested : passes ≡ p (get_or xs i d)) (next : ℕ) where
    pub counted_more : passes ≡ true → next ≡ count + 1 → next ≡ count_by p (take (i + 1) xs)
    counted_more passing one_up =
        one_up ∙ (ap (λ n. n + 1) so_far ∙ sym (count_by_more_yes p xs i d below (sym tested ∙ passing)))

    pub counted_same : passes ≡ false → next ≡ count → next ≡ count_by p (take (i + 1) xs)
    counted_same failing same = same ∙ (so_far ∙ sym (count_by_more_no p xs i d below (sym tested ∙ failing)))

-- ---- brackets

-- a text more in brackets
pub opened-more : (texts : List (List ℕ)) (text : List ℕ) →
    open_bracket_text (texts ++ text ∷ []) ≡ open_bracket_text texts ++ (cond (not (length texts == 0)) (codes ", ") (codes " (") ++ text)
opened-more [] text = append-nil (codes " (" ++ text)
opened-more (first ∷ more) text =
    let comma : List ℕ → List ℕ = λ one. codes ", " ++ one in
    let some : (length (first ∷ more) == 0) ≡ false = ne_eqb (length (first ∷ more)) 0 (omega arith) in
    ap (λ xs. codes " (" ++ first ++ xs) (flat_map-append comma more (text ∷ [])
    ∙ ap (λ xs. flat_map comma more ++ xs) (append-nil (comma text)))
    ∙ sym (append_assoc (codes " (" ++ first) (flat_map comma more) (comma text))
    ∙ ap (λ t. open_bracket_text (first ∷ more) ++ (cond (not t) (codes ", ") (codes " (") ++ text)) (sym some)

-- they are closed where there is a text
pub bracket-closed : (texts : List (List ℕ)) (is_open : Bool) (old mid new : List ℕ) →
    is_open ≡ not (length texts == 0) → is_open ≡ true → mid ≡ old ++ open_bracket_text texts → new ≡ mid ++ codes ")" →
    new ≡ old ++ bracket_text texts
bracket-closed [] is_open old mid new begun some so_far last = cc
bracket-closed (first ∷ others) is_open old mid new begun some so_far last =
    let filled : (length (first ∷ others) == 0) ≡ false = ne_eqb (length (first ∷ others)) 0 (omega arith) in
    rw filled (more old mid new (open_bracket_text (first ∷ others)) (codes ")") so_far last)

-- and there are none where there is none
pub bracket-none : (texts : List (List ℕ)) (is_open : Bool) (old new : List ℕ) →
    is_open ≡ not (length texts == 0) → is_open ≡ false → new ≡ old ++ open_bracket_text texts → new ≡ old ++ bracket_text texts
bracket-none [] is_open old new begun none so_far = so_far
bracket-none (first ∷ others) is_open old new begun none so_far =
    let filled : (length (first ∷ others) == 0) ≡ false = ne_eqb (length (first ∷ others)) 0 (omega arith) in
    absurd (true≢false (ap not (sym filled) ∙ (sym begun ∙ none)))

-- ---- the kinds of failures below one place more

pub failure_texts_below-none : (count : FailureKind → ℕ) (index : ℕ) → count (failure_kind_at index) ≡ 0 →
    failure_texts_below count (index + 1) ≡ failure_texts_below count index
unfolding failure_texts_below
failure_texts_below-none count index none = rw (add-one index, none) (append-nil (failure_texts_below count index))

pub failure_texts_below-some : (count : FailureKind → ℕ) (index : ℕ) → 0 < count (failure_kind_at index) →
    failure_texts_below count (index + 1)
    ≡ failure_texts_below count index ++ (decimal (count (failure_kind_at index)) ++ codes " " ++ failure_kind_name (failure_kind_at index)) ∷ []
unfolding failure_texts_below
failure_texts_below-some count index some =
    let how = failure_kind_at index in
    let other : (count how == 0) ≡ false = ne_eqb (count how) 0 (omega arith) in
    rw add-one (ap (λ t. failure_texts_below count index
    ++ cond t [] ((decimal (count how) ++ codes " " ++ failure_kind_name how) ∷ [])) other)

pub is_begun : (texts : List (List ℕ)) (text : List ℕ) → true ≡ not (length (texts ++ text ∷ []) == 0)
is_begun texts text =
    sym (ap not (ne_eqb (length (texts ++ text ∷ [])) 0 (omega (arith, length-append texts (text ∷ [])))))
