-- What is told of rows: of the first ones, and of one more.
use Rattle.std.proofs.Common.{◌≡◌, ◌∙◌, ℕ, zero, suc, ◌+◌, ◌<◌, ◌≤◌, List, [], ◌∷◌, ◌++◌, length, take, drop}
use Rattle.std.proofs.Common.{get_or, refl, sym, ap, arith, append-nil, append_assoc, take-append-drop}
use Rattle.std.specs.List.{concat}
use Rattle.std.proofs.lemmas.List.Folds.{concat-append}
use Rattle.rv_counting.specs.declared_row.Row.{Row}
use Rattle.rv_stream.specs.Streams.{row_texts, joined_row_texts}

-- the first texts, and those from there on, are all
parts_of_all : (texts : List (List ℕ)) (n : ℕ) → concat texts ≡ concat (take n texts) ++ concat (drop n texts)
parts_of_all texts n = ap concat (sym (take-append-drop n texts)) ∙ concat-append (take n texts) (drop n texts)

module _ (line : ℕ → Row → List ℕ) where
  -- no texts of no rows
  pub texts_none : (places : List ℕ) → row_texts line places [] ≡ []
  texts_none [] = refl
  texts_none (p ∷ places) = refl

  -- the texts of the first rows
  pub texts-take : (n : ℕ) (places : List ℕ) (rows : List Row)
      → row_texts line places (take n rows) ≡ take n (row_texts line places rows)
  texts-take zero places rows = texts_none places
  texts-take (suc n) [] rows = refl
  texts-take (suc n) (p ∷ places) [] = refl
  texts-take (suc n) (p ∷ places) (r ∷ rows) = ap (λ l. line p r ∷ l) (texts-take n places rows)

  told_next : (places : List ℕ) (rows : List Row) (i p : ℕ) (r : Row) → i < length places → i < length rows
      → joined_row_texts line places (take (suc i) rows)
      ≡ joined_row_texts line places (take i rows) ++ line (get_or places i p) (get_or rows i r)
  told_next [] rows i p r in' low = absurd (omega arith)
  told_next (q ∷ places) [] i p r in' low = absurd (omega arith)
  told_next (q ∷ places) (s ∷ rows) zero p r in' low =
      ap (λ l. line q s ++ concat l) (texts_none places) ∙ append-nil (line q s)
  told_next (q ∷ places) (s ∷ rows) (suc i) p r in' low =
      ap (λ l. line q s ++ l) (told_next places rows i p r (omega arith) (omega arith))
      ∙ sym (append_assoc (line q s) (joined_row_texts line places (take i rows)) (line (get_or places i p) (get_or rows i r)))

  -- the text of one row more
  pub told_more : (places : List ℕ) (rows : List Row) (i p : ℕ) (r : Row) → i < length places → i < length rows
      → joined_row_texts line places (take (i + 1) rows)
      ≡ joined_row_texts line places (take i rows) ++ line (get_or places i p) (get_or rows i r)
  told_more places rows i p r in' low =
      let e : i + 1 ≡ suc i = omega arith in
      ap (λ n. joined_row_texts line places (take n rows)) e ∙ told_next places rows i p r in' low

  -- nothing is told of no rows, behind a text
  pub told_none : (text places : List ℕ) (rows : List Row) → text ≡ text ++ joined_row_texts line places (take 0 rows)
  told_none text places rows = sym (ap (λ l. text ++ concat l) (texts_none places) ∙ append-nil text)

  -- the text of one row more, behind a text
  pub told_behind : (text places : List ℕ) (rows : List Row) (i p : ℕ) (row : Row) → i < length places
      → i < length rows → row ≡ get_or rows i row
      → text ++ joined_row_texts line places (take (i + 1) rows)
      ≡ text ++ joined_row_texts line places (take i rows) ++ line (get_or places i p) row
  told_behind text places rows i p row in' low is =
      ap (λ l. text ++ l) (told_more places rows i p row in' low)
      ∙ sym (append_assoc text (joined_row_texts line places (take i rows)) (line (get_or places i p) (get_or rows i row)))
      ∙ ap (λ r. text ++ joined_row_texts line places (take i rows) ++ line (get_or places i p) r) (sym is)

  -- what is told of the first rows behind a text, and the rest
  pub told_rest : (text places : List ℕ) (rows : List Row) (n : ℕ)
      → text ++ joined_row_texts line places rows
      ≡ text ++ joined_row_texts line places (take n rows) ++ concat (drop n (row_texts line places rows))
  told_rest text places rows n =
      let rest : List ℕ = concat (drop n (row_texts line places rows)) in
      ap (λ l. text ++ l) (parts_of_all (row_texts line places rows) n
      ∙ ap (λ l. concat l ++ rest) (sym (texts-take n places rows)))
      ∙ sym (append_assoc text (joined_row_texts line places (take n rows)) rest)

  -- nothing is told of no rows
  pub none_told : (places : List ℕ) → joined_row_texts line places [] ≡ []
  none_told places = ap concat (texts_none places)

  -- of some rows, and of more
  pub told_append : (places : List ℕ) (rows more : List Row) → length rows ≤ length places
      → joined_row_texts line places (rows ++ more)
      ≡ joined_row_texts line places rows ++ joined_row_texts line (drop (length rows) places) more
  told_append places [] more few = ap (λ (l : List ℕ). l ++ joined_row_texts line places more) (sym (none_told places))
  told_append [] (r ∷ rows) more few = absurd (omega (arith, few))
  told_append (p ∷ places) (r ∷ rows) more few =
      ap (λ (l : List ℕ). line p r ++ l) (told_append places rows more (omega (arith, few)))
      ∙ sym (append_assoc (line p r) (joined_row_texts line places rows) (joined_row_texts line (drop (length rows) places) more))
