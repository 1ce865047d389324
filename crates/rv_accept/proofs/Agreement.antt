-- The text that a golden file is given is the one that every job gives that names it.
use Rattle.std.proofs.Common.{◌≡◌, [], ℕ, Bool, true, false, List, Option, Some, None, ap, get_or, refl, sym}
use Rattle.std.specs.Prelude.{not}
use Rattle.std.specs.List.{All, find}
use Rattle.std.proofs.lemmas.Slice.Eq.{bytes_eq-Decides}
use Rattle.rv_accept.proofs.Elements.{none_found}
use Rattle.rv_accept.specs.GoldenOutcomes.{outcome_of_golden_file, outcome_of_first, outcome_of_given_text, outcome_unless_another, outcome_unless_skipped, has_other_text, is_of_skipped_job, is_text, is_for_file}
use Rattle.rv_accept.specs.declared.golden_texts.GoldenText.{GoldenText}
use Rattle.rv_accept.specs.declared.golden_outcomes.GoldenFileOutcome.{GoldenFileOutcome}
use Rattle.rv_accept.specs.declared.golden_outcomes.GoldenFileOutcome.TheVariants as outcome

of_not : (b : Bool) → not b ≡ false → b ≡ true
of_not true is = refl
of_not false is = cc

given_text : (text : List ℕ) (given : Option (List ℕ)) → not (is_text text given) ≡ false → given ≡ Some text
given_text text None is = cc
given_text text (Some given) is = ap Some (sym ((bytes_eq-Decides text given).0 (of_not _ is)))

text_of : GoldenFileOutcome → List ℕ
text_of (outcome.Agreed text) = text
text_of _ = []

abbrev Gives : List ℕ → List ℕ → GoldenText → Type 0
Gives path text golden_text = is_for_file path golden_text ≡ true → golden_text.text ≡ Some text

unless_another : (path text first : List ℕ) (golden_texts : List GoldenText) (job : ℕ) (other : Option GoldenText)
    → find (has_other_text path first) golden_texts ≡ other → outcome_unless_another job first other ≡ outcome.Agreed text
    → All (Gives path text) golden_texts
unfolding text_of
unless_another path text first golden_texts job None none is = λ index golden_text below names.
    rw (sym (ap text_of is)) (given_text first (get_or golden_texts index golden_text).text
    (rw names at (none_found (has_other_text path first) golden_texts none index golden_text below)))
unless_another path text first golden_texts job (Some other) none is = cc

of_given : (path text : List ℕ) (golden_texts : List GoldenText) (job : ℕ) (first : Option (List ℕ))
    → outcome_of_given_text path golden_texts job first ≡ outcome.Agreed text → All (Gives path text) golden_texts
of_given path text golden_texts job None is = cc
of_given path text golden_texts job (Some first) is = unless_another path text first golden_texts job _ refl is

node_of_first : (path text : List ℕ) (golden_texts : List GoldenText) (first : Option GoldenText)
    → outcome_of_first path golden_texts first ≡ outcome.Agreed text → All (Gives path text) golden_texts
node_of_first path text golden_texts None is = cc
node_of_first path text golden_texts (Some first) is = of_given path text golden_texts first.job first.text is

unless_left : (path text : List ℕ) (golden_texts : List GoldenText) (left : Option GoldenText)
    → outcome_unless_skipped path golden_texts left ≡ outcome.Agreed text → All (Gives path text) golden_texts
unless_left path text golden_texts (Some left) is = cc
unless_left path text golden_texts None is = node_of_first path text golden_texts _ is

pub agreed : (path text : List ℕ) (golden_texts : List GoldenText) → outcome_of_golden_file path golden_texts ≡ outcome.Agreed text
    → All (λ (golden_text : GoldenText). is_for_file path golden_text ≡ true → golden_text.text ≡ Some text) golden_texts
unfolding outcome_of_golden_file
agreed path text golden_texts is = unless_left path text golden_texts _ is

-- ---- no job names the file

unclaimed_first : (path : List ℕ) (golden_texts : List GoldenText) (first : Option GoldenText) → find (is_for_file path) golden_texts ≡ first
    → outcome_of_first path golden_texts first ≡ outcome.Unclaimed → All (λ golden_text. is_for_file path golden_text ≡ false) golden_texts
unclaimed_first path golden_texts None none is = none_found (is_for_file path) golden_texts none
unclaimed_first path golden_texts (Some first) found is = go first.text is
  where
    go : (text : Option (List ℕ)) → outcome_of_given_text path golden_texts first.job text ≡ outcome.Unclaimed
        → All (λ golden_text. is_for_file path golden_text ≡ false) golden_texts
    go None is = cc
    go (Some text) is = at_other (find (has_other_text path text) golden_texts) is
      where
        at_other : (other : Option GoldenText) → outcome_unless_another first.job text other ≡ outcome.Unclaimed
            → All (λ golden_text. is_for_file path golden_text ≡ false) golden_texts
        at_other None is = cc
        at_other (Some other) is = cc

pub unclaimed : (path : List ℕ) (golden_texts : List GoldenText) → outcome_of_golden_file path golden_texts ≡ outcome.Unclaimed
    → All (λ (golden_text : GoldenText). is_for_file path golden_text ≡ false) golden_texts
unfolding outcome_of_golden_file
unclaimed path golden_texts is = go (find (is_of_skipped_job path) golden_texts) is
  where
    go : (left : Option GoldenText) → outcome_unless_skipped path golden_texts left ≡ outcome.Unclaimed
        → All (λ golden_text. is_for_file path golden_text ≡ false) golden_texts
    go (Some left) is = cc
    go None is = unclaimed_first path golden_texts _ refl is
