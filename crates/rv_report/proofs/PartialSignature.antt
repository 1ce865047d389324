-- A signature of which some lines are there keeps them, whatever follows.
use Rattle.std.proofs.Common.{◌≡◌, ◌∙◌, ◌<◌, ◌≤◌, ℕ, zero, suc, Bool, true, false, not, List, [], ◌∷◌, ◌++◌}
use Rattle.std.proofs.Common.{length, take, map, Option, Some, None, refl, sym, ap, arith, subst, length-append}
use Rattle.std.specs.Prelude.{codes, nat_le}
use Rattle.std.specs.List.{AllByRecursion}
use Rattle.std.specs.Fmt.{decimal}
use Rattle.std.proofs.lemmas.Bool.Decides.{nat_tests}
use Rattle.std.proofs.lemmas.List.{take-append-le, take-map, map-append, length-map}
use Rattle.std.proofs.lemmas.List.Folds.{flat_map-map}
use Rattle.rv_text.specs.Numbers.{word_digits}
use Rattle.rv_report.specs.declared.row.Row.{Row}
use Rattle.rv_report.specs.declared.lenient_rows.Stage.TheVariants as stage
use Rattle.rv_report.specs.Report.{line}
use Rattle.rv_report.specs.LenientReport.{lines, decimal_number, decimal_number_from, ReaderStateView, with_line, with_last_row_finished}
use Rattle.rv_report.specs.Saved.{IsWord, IsValidSignature, max_words}
use Rattle.rv_report.proofs.Pieces.{first_is_other}
use Rattle.rv_report.proofs.Words.{lacks-decimal, number_of-decimal}
use Rattle.rv_report.proofs.Spelled.{says, signature_text_says, words_say}
use Rattle.rv_report.proofs.LineLists.{joined, says_first}
use Rattle.rv_report.proofs.RecordedRow.{with_less, Kept, KnowsWords}
use Rattle.rv_report.proofs.RecordedRow.{words_keep}
use Rattle.rv_report.proofs.RowLines.{count_words, lines_of_signature}

pub all-taken : {X : Type 0} (P : X → Type 0) (count : ℕ) (xs : List X) → AllByRecursion P xs → AllByRecursion P (take count xs)
all-taken P zero xs h = tt
all-taken P (suc count) [] h = tt
all-taken P (suc count) (x ∷ xs) h = (h.0, all-taken P count xs h.1)

pub taken_within : {X : Type 0} (count : ℕ) (xs : List X) → length (take count xs) ≤ length xs
taken_within zero xs = omega arith
taken_within (suc count) [] = omega arith
taken_within (suc count) (x ∷ xs) = let h = taken_within count xs in omega arith

-- the line of the count
count_says : (n : ℕ) (g : ReaderStateView) → n ≤ max_words
    → with_line (count_words n) (record g { stage = stage.Signature })
    ≡ record g { has_signature = true; count = n; words = []; stage = stage.Words }
count_says n g few =
    let value : decimal_number (decimal n) ≡ n = number_of-decimal n (omega arith) in
    let small : nat_le (decimal_number (decimal n)) max_words ≡ true = grind (arith, nat_tests) in
    signature_text_says (decimal n) g small
    ∙ ap (λ (t : Bool). record g { has_signature = not t; count = decimal_number (decimal n); words = []; stage = stage.Words })
    (first_is_other 45 (decimal n) (omega arith) (lacks-decimal 45 n (omega arith) (omega arith)))
    ∙ ap (λ (k : ℕ). record g { has_signature = true; count = k; words = []; stage = stage.Words }) value

-- a row has what is known before the signature, and these lines of it
pub record KnowsLines (ls : List (List ℕ)) (g : ReaderStateView) (r : Row) : Type 0 where
  pub name : r.name ≡ g.name
  pub ending : r.ending ≡ g.ending
  pub steps : r.steps ≡ g.steps
  pub console : r.console ≡ g.console
  pub more : List (List ℕ)
  pub signature : lines_of_signature r.signature ≡ ls ++ more

unsigned_lines : (g : ReaderStateView) (r : Row) → KnowsWords (record g { has_signature = false; count = 0; words = [] }) r
    → KnowsLines (codes "signature -" ∷ []) g r
unsigned_lines g r k = record {
  name = k.name;
  ending = k.ending;
  steps = k.steps;
  console = k.console;
  more = [];
  signature = ap lines_of_signature k.signature;
}

pub signed_lines : (n : ℕ) (ws : List ℕ) (g : ReaderStateView) (r : Row)
    → KnowsWords (record g { has_signature = true; count = n; words = ws }) r
    → KnowsLines (count_words n ∷ map word_digits ws) g r
signed_lines n ws g r k = record {
  name = k.name;
  ending = k.ending;
  steps = k.steps;
  console = k.console;
  more = map word_digits k.more;
  signature = ap lines_of_signature k.signature
      ∙ ap (λ (c : ℕ). count_words c ∷ map word_digits (ws ++ k.more)) k.all
      ∙ ap (λ (t : List (List ℕ)). count_words n ∷ t) (map-append word_digits ws k.more);
}

unsigned_says : (w : List ℕ) (g : ReaderStateView) → says (joined (codes "signature -" ∷ []) ++ w) (record g { stage = stage.Signature })
    ≡ says w (record g { has_signature = false; count = 0; words = []; stage = stage.Words })
unfolding decimal_number_from
unsigned_says w g =
    says_first (codes "signature -") [] w (record g { stage = stage.Signature }) refl
    ∙ ap (says w) (signature_text_says (codes "-") g refl)

pub signed_says : (n : ℕ) (ws w : List ℕ) (g : ReaderStateView) → n ≤ max_words → length ws ≤ n → AllByRecursion IsWord ws
    → says (joined (count_words n ∷ map word_digits ws) ++ w) (record g { stage = stage.Signature })
    ≡ says w (record g { has_signature = true; count = n; words = ws; stage = stage.Words })
signed_says n ws w g few within each =
    let known : ReaderStateView = record g { has_signature = true; count = n; words = []; stage = stage.Words } in
    says_first (count_words n) (map word_digits ws) w (record g { stage = stage.Signature })
    (lacks-decimal 10 n (omega arith) (omega arith))
    ∙ ap (says (joined (map word_digits ws) ++ w)) (count_says n g few)
    ∙ ap (λ (t : List ℕ). says (t ++ w) known) (flat_map-map line word_digits ws)
    ∙ words_say ws w known each (omega arith)

-- some lines of the signature, and not all, nor the verdict
pub signature_part : (s : Option (List ℕ)) (i : ℕ) (v w : List ℕ) (g : ReaderStateView) → IsValidSignature s
    → suc i < length (lines_of_signature s ++ v ∷ [])
    → Kept (KnowsLines (take (suc i) (lines_of_signature s ++ v ∷ []))) g
    (with_last_row_finished (says (joined (take (suc i) (lines_of_signature s ++ v ∷ [])) ++ w)
    (record g { is_in_row = true; stage = stage.Signature })))
signature_part None zero v w g h within =
    let known : ReaderStateView = record g { has_signature = false; count = 0; words = [] } in
    let K = KnowsLines (codes "signature -" ∷ []) in
    subst (λ (f : ReaderStateView). Kept K g (with_last_row_finished f)) (sym (unsigned_says w (record g { is_in_row = true })))
    (with_less g.numbers g.rows g.number (KnowsWords known) (K g)
    (with_last_row_finished (says w (record known { is_in_row = true; stage = stage.Words }))) (words_keep (lines w) known (omega arith))
    (unsigned_lines g))
signature_part None (suc i) v w g h within = absurd (omega arith)
signature_part (Some ws) i v w g h within =
    let n = length ws in
    let some = take i ws in
    let known : ReaderStateView = record g { has_signature = true; count = n; words = some } in
    let a = length-append (map word_digits ws) (v ∷ []) in
    let b : length (map word_digits ws) ≡ n = length-map ws word_digits in
    let taken : map word_digits some ≡ take i (map word_digits ws ++ v ∷ []) =
    sym (take-append-le i (map word_digits ws) (v ∷ []) (omega arith) ∙ take-map word_digits i ws) in
    let few : length ws ≤ max_words = h.0 in
    let K : List (List ℕ) → ReaderStateView → Row → Type 0 = λ ls. KnowsLines (count_words n ∷ ls) in
    subst (λ (ls : List (List ℕ)). Kept (K ls) g
    (with_last_row_finished (says (joined (count_words n ∷ ls) ++ w) (record g { is_in_row = true; stage = stage.Signature })))) taken
    (subst (λ (f : ReaderStateView). Kept (K (map word_digits some)) g (with_last_row_finished f))
    (sym (signed_says n some w (record g { is_in_row = true }) few (taken_within i ws) (all-taken IsWord i ws h.1)))
    (with_less g.numbers g.rows g.number (KnowsWords known) (K (map word_digits some) g)
    (with_last_row_finished (says w (record known { is_in_row = true; stage = stage.Words })))
    (words_keep (lines w) known (taken_within i ws)) (signed_lines n some g)))
