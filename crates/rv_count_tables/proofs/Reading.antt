-- What is read is the one table of its text, and a line that is refused is the first that no table has there.
use Rattle.std.proofs.Common.{◌≡◌, ◌∙◌, ◌==◌, ◌+◌, ◌-◌, ℕ, zero, suc, Bool, true, false, not, cond, List, [], ◌∷◌, ◌++◌, length, drop, refl, sym, ap, append-nil, arith, inl, inr}
use Rattle.std.proofs.lemmas.Bool.{and_parts, false≢true, cases_Bool}
use Rattle.std.specs.List.{AllByRecursion, flat_map}
use Rattle.rv_count_tables.specs.declared.table.ImageCounts.{ImageCounts}
use Rattle.rv_count_tables.specs.declared.table.CountTable.{CountTable}
use Rattle.rv_count_tables.specs.Lines.{lacks, line_feed_count, first_lines}
use Rattle.rv_count_tables.specs.Table.{IsValidImage, IsValidTable}
use Rattle.rv_count_tables.specs.Text.{image_line, image_text, last_line, table_text}
use Rattle.rv_count_tables.specs.ReadSteps.{Entry, IsValidEntry, entry_line, entries_of}
use Rattle.rv_count_tables.proofs.Entries.{entries_fit, same_parts, AreSame}
use Rattle.rv_count_tables.proofs.LineTexts.{entry_words, image_words, entry_is_line, image_is_line, lacks-entry, lacks-image, same_entry_line, same_digest, same_path, same_runs}
use Rattle.rv_count_tables.proofs.LineTexts.{entry_is_no_image, entry_is_not_last, image_is_not_last}
use Rattle.rv_count_tables.proofs.Decode.{same_line, first_entry, first_image}

-- ---- first lines

first_step : (c b : ℕ) (bs : List ℕ) → first_lines (suc c) (b ∷ bs)
    ≡ b ∷ first_lines (cond (b == 10) (suc c - 1) (suc c)) bs
unfolding first_lines
first_step c b bs =
    let t : (suc c == 0) ≡ false = grind arith in
    ap (λ (s : Bool). cond s [] (b ∷ first_lines (cond (b == 10) (suc c - 1) (suc c)) bs)) t

pub no_lines : (bytes : List ℕ) → first_lines 0 bytes ≡ []
unfolding first_lines
no_lines [] = refl
no_lines (b ∷ bs) = refl

-- the lines up to a line feed are as many as there are line feeds
pub lines_up_to : (xs rest : List ℕ) (n : ℕ) → n ≡ line_feed_count xs
    → first_lines (suc n) (xs ++ 10 ∷ rest) ≡ xs ++ 10 ∷ []
lines_up_to [] rest n is =
    let e : suc n - 1 ≡ 0 = omega arith in
    first_step n 10 rest ∙ ap (λ (k : ℕ). 10 ∷ first_lines k rest) e ∙ ap (λ (s : List ℕ). 10 ∷ s) (no_lines rest)
lines_up_to (b ∷ bs) rest n is = elim (cases_Bool (b == 10)) [
  | inl t ↦
      let f : line_feed_count (b ∷ bs) ≡ line_feed_count bs + 1 =
      ap (λ (s : Bool). cond s (line_feed_count bs + 1) (line_feed_count bs)) t in
      let e : suc n - 1 ≡ suc (line_feed_count bs) = omega arith in
      first_step n b (bs ++ 10 ∷ rest)
      ∙ ap (λ (s : Bool). b ∷ first_lines (cond s (suc n - 1) (suc n)) (bs ++ 10 ∷ rest)) t
      ∙ ap (λ (k : ℕ). b ∷ first_lines k (bs ++ 10 ∷ rest)) e
      ∙ ap (λ (s : List ℕ). b ∷ s) (lines_up_to bs rest (line_feed_count bs) refl)
  | inr t ↦
      let f : line_feed_count (b ∷ bs) ≡ line_feed_count bs =
      ap (λ (s : Bool). cond s (line_feed_count bs + 1) (line_feed_count bs)) t in
      first_step n b (bs ++ 10 ∷ rest)
      ∙ ap (λ (s : Bool). b ∷ first_lines (cond s (suc n - 1) (suc n)) (bs ++ 10 ∷ rest)) t
      ∙ ap (λ (s : List ℕ). b ∷ s) (lines_up_to bs rest n (is ∙ f))
]

-- one line further there is some byte, if there is one
pub lines_past : (xs rest : List ℕ) (b : ℕ) (n : ℕ) → n ≡ line_feed_count xs
    → (more : List ℕ) × (first_lines (suc (suc n)) (xs ++ 10 ∷ (b ∷ rest)) ≡ xs ++ 10 ∷ (b ∷ more))
lines_past [] rest b n is =
    let e : suc (suc n) - 1 ≡ 1 = omega arith in (
      first_lines (cond (b == 10) (suc 0 - 1) (suc 0)) rest,
      first_step (suc n) 10 (b ∷ rest) ∙ ap (λ (k : ℕ). 10 ∷ first_lines k (b ∷ rest)) e
          ∙ ap (λ (s : List ℕ). 10 ∷ s) (first_step 0 b rest),
    )
lines_past (x ∷ xs) rest b n is = elim (cases_Bool (x == 10)) [
  | inl t ↦
      let f : line_feed_count (x ∷ xs) ≡ line_feed_count xs + 1 =
      ap (λ (s : Bool). cond s (line_feed_count xs + 1) (line_feed_count xs)) t in
      let e : suc (suc n) - 1 ≡ suc (suc (line_feed_count xs)) = omega arith in
      let k = lines_past xs rest b (line_feed_count xs) refl in (
        k.0,
        first_step (suc n) x (xs ++ 10 ∷ (b ∷ rest))
            ∙ ap (λ (s : Bool). x ∷ first_lines (cond s (suc (suc n) - 1) (suc (suc n))) (xs ++ 10 ∷ (b ∷ rest))) t
            ∙ ap (λ (k : ℕ). x ∷ first_lines k (xs ++ 10 ∷ (b ∷ rest))) e
            ∙ ap (λ (s : List ℕ). x ∷ s) k.1,
      )
  | inr t ↦
      let f : line_feed_count (x ∷ xs) ≡ line_feed_count xs =
      ap (λ (s : Bool). cond s (line_feed_count xs + 1) (line_feed_count xs)) t in
      let k = lines_past xs rest b n (is ∙ f) in (
        k.0,
        first_step (suc n) x (xs ++ 10 ∷ (b ∷ rest))
            ∙ ap (λ (s : Bool). x ∷ first_lines (cond s (suc (suc n) - 1) (suc (suc n))) (xs ++ 10 ∷ (b ∷ rest))) t
            ∙ ap (λ (s : List ℕ). x ∷ s) k.1,
      )
]

none_first : (n : ℕ) → first_lines n [] ≡ []
unfolding first_lines
none_first n = refl

-- a text goes on behind its first lines
pub lines_begin : (bytes : List ℕ) (n : ℕ) → (rest : List ℕ) × (bytes ≡ first_lines n bytes ++ rest)
lines_begin [] n = ([], ap (λ (s : List ℕ). s ++ []) (sym (none_first n)))
lines_begin (b ∷ bs) zero = (b ∷ bs, ap (λ (s : List ℕ). s ++ b ∷ bs) (sym (no_lines (b ∷ bs))))
lines_begin (b ∷ bs) (suc n) =
    let k = lines_begin bs (cond (b == 10) (suc n - 1) (suc n)) in
    (k.0, ap (λ (s : List ℕ). b ∷ s) k.1 ∙ ap (λ (s : List ℕ). s ++ k.0) (sym (first_step n b bs)))

pub feeds-append : (xs ys : List ℕ) → line_feed_count (xs ++ ys) ≡ line_feed_count xs + line_feed_count ys
feeds-append [] ys = omega arith
feeds-append (b ∷ bs) ys = let h = feeds-append bs ys in elim (cases_Bool (b == 10)) [
  | inl t ↦
      let p = ap (λ (s : Bool). cond s (line_feed_count (bs ++ ys) + 1) (line_feed_count (bs ++ ys))) t in
      let q = ap (λ (s : Bool). cond s (line_feed_count bs + 1) (line_feed_count bs)) t in
      omega (arith, p, q, h)
  | inr t ↦
      let p = ap (λ (s : Bool). cond s (line_feed_count (bs ++ ys) + 1) (line_feed_count (bs ++ ys))) t in
      let q = ap (λ (s : Bool). cond s (line_feed_count bs + 1) (line_feed_count bs)) t in
      omega (arith, p, q, h)
]

pub no_feeds : (xs : List ℕ) → lacks 10 xs ≡ true → line_feed_count xs ≡ 0
no_feeds [] h = refl
no_feeds (b ∷ bs) h =
    let parts = and_parts (not (b == 10)) (lacks 10 bs) h in elim (cases_Bool (b == 10)) [
      | inl t ↦ absurd (false≢true (sym (ap not t) ∙ parts.0))
      | inr t ↦ ap (λ (s : Bool). cond s (line_feed_count bs + 1) (line_feed_count bs)) t ∙ no_feeds bs parts.1
    ]

-- ---- one table has a text

-- the line of no entry stands first
abbrev NoEntryFirst : List ℕ → Type 0
NoEntryFirst text = (e : Entry) (s : List ℕ) → text ≡ entry_line e ++ s → ⊥

no_entry_first : (is : List ImageCounts) (n r : ℕ) → NoEntryFirst (flat_map image_text is ++ last_line n r)
no_entry_first [] n r e s h = entry_is_not_last e n r s [] (sym h ∙ sym (append-nil (last_line n r)))
no_entry_first (i ∷ is) n r e s h = entry_is_no_image e i s _ (sym h ∙ first_image i is (last_line n r))

same_entries : (cs ds : List Entry) (s t : List ℕ) → AllByRecursion IsValidEntry cs → AllByRecursion IsValidEntry ds
    → NoEntryFirst s → NoEntryFirst t → flat_map entry_line cs ++ s ≡ flat_map entry_line ds ++ t
    → (cs ≡ ds) × (s ≡ t)
same_entries [] [] s t p q h k e = (refl, e)
same_entries [] (d ∷ ds) s t p q h k e = absurd (h d (flat_map entry_line ds ++ t) (e ∙ first_entry d ds t))
same_entries (c ∷ cs) [] s t p q h k e =
    absurd (k c (flat_map entry_line cs ++ s) (sym e ∙ first_entry c cs s))
same_entries (c ∷ cs) (d ∷ ds) s t p q h k e =
    let same = same_line (entry_words c) (entry_words d) (flat_map entry_line cs ++ s) (flat_map entry_line ds ++ t)
    (lacks-entry c p.0) (lacks-entry d q.0)
    (ap (λ (x : List ℕ). x ++ (flat_map entry_line cs ++ s)) (sym (entry_is_line c)) ∙ sym (first_entry c cs s) ∙ e
    ∙ first_entry d ds t ∙ ap (λ (x : List ℕ). x ++ (flat_map entry_line ds ++ t)) (entry_is_line d)) in
    let one : c ≡ d = same_entry_line c d p.0 q.0 (entry_is_line c ∙ same.0 ∙ sym (entry_is_line d)) in
    let rest = same_entries cs ds s t p.1 q.1 h k same.1 in
    (λ i. one i ∷ rest.0 i, rest.1)

same_image : (i j : ImageCounts) → i.digest ≡ j.digest → i.path ≡ j.path → AreSame i j → i ≡ j
same_image i j d p a = λ k. record {
  digest = d k;
  path = p k;
  addresses = a.addresses k;
  functions = a.functions k;
  nodes = a.nodes k;
}

same_images : (is js : List ImageCounts) (n m r q : ℕ) → AllByRecursion IsValidImage is → AllByRecursion IsValidImage js
    → flat_map image_text is ++ last_line n r ≡ flat_map image_text js ++ last_line m q
    → (is ≡ js) × (last_line n r ≡ last_line m q)
same_images [] [] n m r q h k e = (refl, e)
same_images [] (j ∷ js) n m r q h k e =
    absurd (image_is_not_last j n r _ [] (sym (first_image j js (last_line m q)) ∙ sym e ∙ sym (append-nil (last_line n r))))
same_images (i ∷ is) [] n m r q h k e =
    absurd (image_is_not_last i m q _ [] (sym (first_image i is (last_line n r)) ∙ e ∙ sym (append-nil (last_line m q))))
same_images (i ∷ is) (j ∷ js) n m r q h k e =
    let s = flat_map image_text is ++ last_line n r in
    let t = flat_map image_text js ++ last_line m q in
    let same = same_line (image_words i) (image_words j) (flat_map entry_line (entries_of i) ++ s)
    (flat_map entry_line (entries_of j) ++ t) (lacks-image i h.0) (lacks-image j k.0)
    (ap (λ (x : List ℕ). x ++ (flat_map entry_line (entries_of i) ++ s)) (sym (image_is_line i))
    ∙ sym (first_image i is (last_line n r)) ∙ e ∙ first_image j js (last_line m q)
    ∙ ap (λ (x : List ℕ). x ++ (flat_map entry_line (entries_of j) ++ t)) (image_is_line j)) in
    let lines : image_line i ≡ image_line j = image_is_line i ∙ same.0 ∙ sym (image_is_line j) in
    let inside = same_entries (entries_of i) (entries_of j) s t (entries_fit i h.0) (entries_fit j k.0) (no_entry_first is n r)
    (no_entry_first js m q) same.1 in
    let others = same_images is js n m r q h.1 k.1 inside.1 in
    let one : i ≡ j = same_image i j (same_digest i j h.0 k.0 lines) (same_path i j h.0 k.0 lines)
    (same_parts i j h.0 k.0 inside.0) in
    (λ x. one x ∷ others.0 x, others.1)

behind_first : (t : CountTable) → drop 11 (table_text t) ≡ flat_map image_text t.images ++ last_line (length t.images) t.runs
unfolding table_text
behind_first t = refl

pub one_table : (t u : CountTable) → IsValidTable t → IsValidTable u → table_text t ≡ table_text u → t ≡ u
one_table t u h k e =
    let same = same_images t.images u.images (length t.images) (length u.images) t.runs u.runs h.images k.images
    (sym (behind_first t) ∙ ap (drop 11) e ∙ behind_first u) in
    let runs = same_runs (length t.images) (length u.images) t.runs u.runs h.few k.few h.runs k.runs same.1 in
    λ i. record { images = same.0 i; runs = runs i }
