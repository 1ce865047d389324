-- A row of which some lines are there is the row of those lines, whatever follows.
use Rattle.std.proofs.Common.{◌≡◌, ◌∙◌, ◌<◌, ◌≤◌, ◌^◌, ℕ, zero, suc, true, List, [], ◌∷◌, ◌++◌}
use Rattle.std.proofs.Common.{length, take, sym, ap, arith, subst, append_assoc}
use Rattle.rv_base.specs.Limits.{max_jobs}
use Rattle.rv_report.specs.declared.row.Row.{Row}
use Rattle.rv_report.specs.declared.row.RowEnd.{RowEnd}
use Rattle.rv_report.specs.declared.lenient_rows.Stage.TheVariants as stage
use Rattle.rv_report.specs.LenientReport.{lines, ReaderStateView, with_last_row_finished}
use Rattle.rv_report.specs.Saved.{IsValidRow}
use Rattle.rv_report.proofs.Words.{lacks-decimal}
use Rattle.rv_report.proofs.Spelled.{says, end_words, job_says, end_says, steps_says, console_says}
use Rattle.rv_report.proofs.Spelled.{lacks-job, lacks-end, lacks-shown}
use Rattle.rv_report.proofs.LineLists.{joined, says_first}
use Rattle.rv_report.proofs.RecordedRow.{HasRow, with_less, KnowsName, KnowsEnding, KnowsSteps, KnowsConsole}
use Rattle.rv_report.proofs.RecordedRow.{signature_keep, console_keep, steps_keep, ending_keep}
use Rattle.rv_report.proofs.RowLines.{job_words, steps_change_text, console_change_text, verdict_change_text, lines_of_signature, row_lines}
use Rattle.rv_report.proofs.PartialSignature.{KnowsLines, signature_part}

-- ---- the lines before

abbrev after_job : ℕ → Row → ReaderStateView → ReaderStateView
after_job n row g = record g { number = n; name = row.name; is_in_row = true; stage = stage.Ending }

abbrev after_ending : ℕ → Row → ReaderStateView → ReaderStateView
after_ending n row g = record g { number = n; name = row.name; is_in_row = true; ending = row.ending; stage = stage.Steps }

abbrev after_steps : ℕ → Row → ReaderStateView → ReaderStateView
after_steps n row g = record g {
  number = n;
  name = row.name;
  is_in_row = true;
  ending = row.ending;
  steps = row.steps;
  stage = stage.Console;
}

abbrev pub after_console : ℕ → Row → ReaderStateView → ReaderStateView
after_console n row g = record g {
  number = n;
  name = row.name;
  is_in_row = true;
  ending = row.ending;
  steps = row.steps;
  console = row.console;
  stage = stage.Signature;
}

one_line : (n : ℕ) (row : Row) (ls : List (List ℕ)) (w : List ℕ) (g : ReaderStateView) → IsValidRow row → n < 2 ^ 32
    → length g.rows < max_jobs
    → says (joined (job_words n row.name ∷ ls) ++ w) (record g { stage = stage.BetweenRows })
    ≡ says (joined ls ++ w) (after_job n row g)
one_line n row ls w g is small few =
    says_first (job_words n row.name) ls w (record g { stage = stage.BetweenRows }) (lacks-job n row.name (omega arith) is.name)
    ∙ ap (says (joined ls ++ w)) (job_says n row.name g small is.name few)

two_lines : (n : ℕ) (row : Row) (ls : List (List ℕ)) (w : List ℕ) (g : ReaderStateView) → IsValidRow row → n < 2 ^ 32
    → length g.rows < max_jobs
    → says (joined (job_words n row.name ∷ end_words row.ending ∷ ls) ++ w) (record g { stage = stage.BetweenRows })
    ≡ says (joined ls ++ w) (after_ending n row g)
two_lines n row ls w g is small few =
    one_line n row (end_words row.ending ∷ ls) w g is small few
    ∙ says_first (end_words row.ending) ls w (after_job n row g) (lacks-end row.ending is.ending)
    ∙ ap (says (joined ls ++ w)) (end_says row.ending (after_job n row g) is.ending)

three_lines : (n : ℕ) (row : Row) (ls : List (List ℕ)) (w : List ℕ) (g : ReaderStateView) → IsValidRow row → n < 2 ^ 32
    → length g.rows < max_jobs
    → says (joined (job_words n row.name ∷ end_words row.ending ∷ steps_change_text row.steps ∷ ls) ++ w)
    (record g { stage = stage.BetweenRows })
    ≡ says (joined ls ++ w) (after_steps n row g)
three_lines n row ls w g is small few =
    let steps = is.steps in
    two_lines n row (steps_change_text row.steps ∷ ls) w g is small few
    ∙ says_first (steps_change_text row.steps) ls w (after_ending n row g) (lacks-decimal 10 row.steps (omega arith) (omega arith))
    ∙ ap (says (joined ls ++ w)) (steps_says row.steps (after_ending n row g) steps)

pub four_lines : (n : ℕ) (row : Row) (ls : List (List ℕ)) (w : List ℕ) (g : ReaderStateView) → IsValidRow row → n < 2 ^ 32
    → length g.rows < max_jobs
    → says (joined (job_words n row.name ∷ end_words row.ending ∷ steps_change_text row.steps ∷ console_change_text row.console ∷ ls) ++ w)
    (record g { stage = stage.BetweenRows })
    ≡ says (joined ls ++ w) (after_console n row g)
four_lines n row ls w g is small few =
    three_lines n row (console_change_text row.console ∷ ls) w g is small few
    ∙ says_first (console_change_text row.console) ls w (after_steps n row g) (lacks-shown row.console is.console)
    ∙ ap (says (joined ls ++ w)) (console_says row.console (after_steps n row g) is.console)

-- ---- the row

-- a row has the name and the first so many lines of another
pub record Agrees (n : ℕ) (row : Row) (k : ℕ) (r : Row) : Type 0 where
  pub name : r.name ≡ row.name
  pub more : List (List ℕ)
  pub lines : row_lines n r ≡ take k (row_lines n row) ++ more

abbrev pub last_lines : Row → List (List ℕ)
last_lines r = lines_of_signature r.signature ++ verdict_change_text r.verdict ∷ []

agrees_one : (n : ℕ) (row : Row) (g : ReaderStateView) (r : Row) → KnowsName (after_job n row g) r → Agrees n row (suc zero) r
agrees_one n row g r k = record {
  name = k;
  more = end_words r.ending ∷ steps_change_text r.steps ∷ console_change_text r.console ∷ last_lines r;
  lines = ap (λ (t : List ℕ). job_words n t ∷ end_words r.ending ∷ steps_change_text r.steps ∷ console_change_text r.console
      ∷ last_lines r) k;
}

agrees_two : (n : ℕ) (row : Row) (g : ReaderStateView) (r : Row) → KnowsEnding (after_ending n row g) r
    → Agrees n row (suc (suc zero)) r
agrees_two n row g r k = record {
  name = k.0;
  more = steps_change_text r.steps ∷ console_change_text r.console ∷ last_lines r;
  lines = ap (λ (t : List ℕ). job_words n t ∷ end_words r.ending ∷ steps_change_text r.steps ∷ console_change_text r.console
      ∷ last_lines r) k.0
      ∙ ap (λ (t : RowEnd). job_words n row.name ∷ end_words t ∷ steps_change_text r.steps ∷ console_change_text r.console
      ∷ last_lines r) k.1;
}

agrees_three : (n : ℕ) (row : Row) (g : ReaderStateView) (r : Row) → KnowsSteps (after_steps n row g) r
    → Agrees n row (suc (suc (suc zero))) r
agrees_three n row g r k = record {
  name = k.0;
  more = console_change_text r.console ∷ last_lines r;
  lines = ap (λ (t : List ℕ). job_words n t ∷ end_words r.ending ∷ steps_change_text r.steps ∷ console_change_text r.console
      ∷ last_lines r) k.0
      ∙ ap (λ (t : RowEnd). job_words n row.name ∷ end_words t ∷ steps_change_text r.steps ∷ console_change_text r.console
      ∷ last_lines r) k.1
      ∙ ap (λ (t : ℕ). job_words n row.name ∷ end_words row.ending ∷ steps_change_text t ∷ console_change_text r.console
      ∷ last_lines r) k.2;
}

unfoldable pub agrees_four : (n : ℕ) (row : Row) (g : ReaderStateView) (r : Row) → KnowsConsole (after_console n row g) r
    → Agrees n row (suc (suc (suc (suc zero)))) r
agrees_four n row g r k = record {
  name = k.0;
  more = last_lines r;
  lines = ap (λ (t : List ℕ). job_words n t ∷ end_words r.ending ∷ steps_change_text r.steps ∷ console_change_text r.console
      ∷ last_lines r) k.0
      ∙ ap (λ (t : RowEnd). job_words n row.name ∷ end_words t ∷ steps_change_text r.steps ∷ console_change_text r.console
      ∷ last_lines r) k.1
      ∙ ap (λ (t : ℕ). job_words n row.name ∷ end_words row.ending ∷ steps_change_text t ∷ console_change_text r.console
      ∷ last_lines r) k.2
      ∙ ap (λ (t : List ℕ). job_words n row.name ∷ end_words row.ending ∷ steps_change_text row.steps ∷ console_change_text t
      ∷ last_lines r) k.3;
}

agrees_more : (n : ℕ) (row : Row) (i : ℕ) (g : ReaderStateView) (r : Row)
    → KnowsLines (take (suc i) (last_lines row)) (after_console n row g) r
    → Agrees n row (suc (suc (suc (suc (suc i))))) r
unfolding agrees_four
agrees_more n row i g r k =
    let part = take (suc i) (last_lines row) in
    let last = verdict_change_text r.verdict ∷ [] in
    record {
      name = k.name;
      more = k.more ++ last;
      lines = (agrees_four n row g r (k.name, k.ending, k.steps, k.console)).lines
          ∙ ap (λ (t : List (List ℕ)). job_words n row.name ∷ end_words row.ending ∷ steps_change_text row.steps
          ∷ console_change_text row.console ∷ t)
          (ap (λ (t : List (List ℕ)). t ++ last) k.signature ∙ append_assoc part k.more last);
    }

-- the first lines of a row, and not all
pub partial_row : (k n : ℕ) (row : Row) (w : List ℕ) (g : ReaderStateView) → IsValidRow row → n < 2 ^ 32 → length g.rows < max_jobs
    → length g.words ≤ g.count → 0 < k → k < length (row_lines n row)
    → HasRow g.numbers g.rows n (Agrees n row k)
    (with_last_row_finished (says (joined (take k (row_lines n row)) ++ w) (record g { stage = stage.BetweenRows })))
partial_row zero n row w g is small few room some within = absurd (omega arith)
partial_row (suc zero) n row w g is small few room some within =
    let now = after_job n row g in
    subst (λ (f : ReaderStateView). HasRow g.numbers g.rows n (Agrees n row (suc zero)) (with_last_row_finished f))
    (sym (one_line n row [] w g is small few))
    (with_less g.numbers g.rows n (KnowsName now) (Agrees n row (suc zero)) (with_last_row_finished (says w now))
    (ending_keep (lines w) now room) (agrees_one n row g))
partial_row (suc (suc zero)) n row w g is small few room some within =
    let now = after_ending n row g in
    subst (λ (f : ReaderStateView). HasRow g.numbers g.rows n (Agrees n row (suc (suc zero))) (with_last_row_finished f))
    (sym (two_lines n row [] w g is small few))
    (with_less g.numbers g.rows n (KnowsEnding now) (Agrees n row (suc (suc zero))) (with_last_row_finished (says w now))
    (steps_keep (lines w) now room) (agrees_two n row g))
partial_row (suc (suc (suc zero))) n row w g is small few room some within =
    let now = after_steps n row g in
    subst (λ (f : ReaderStateView). HasRow g.numbers g.rows n (Agrees n row (suc (suc (suc zero)))) (with_last_row_finished f))
    (sym (three_lines n row [] w g is small few))
    (with_less g.numbers g.rows n (KnowsSteps now) (Agrees n row (suc (suc (suc zero)))) (with_last_row_finished (says w now))
    (console_keep (lines w) now room) (agrees_three n row g))
partial_row (suc (suc (suc (suc zero)))) n row w g is small few room some within =
    let now = after_console n row g in
    subst (λ (f : ReaderStateView). HasRow g.numbers g.rows n (Agrees n row (suc (suc (suc (suc zero))))) (with_last_row_finished f))
    (sym (four_lines n row [] w g is small few))
    (with_less g.numbers g.rows n (KnowsConsole now) (Agrees n row (suc (suc (suc (suc zero))))) (with_last_row_finished (says w now))
    (signature_keep (lines w) now room) (agrees_four n row g))
partial_row (suc (suc (suc (suc (suc i))))) n row w g is small few room some within =
    let now = after_console n row g in
    let part = take (suc i) (last_lines row) in
    subst (λ (f : ReaderStateView). HasRow g.numbers g.rows n (Agrees n row (suc (suc (suc (suc (suc i)))))) (with_last_row_finished f))
    (sym (four_lines n row part w g is small few))
    (with_less g.numbers g.rows n (KnowsLines part now) (Agrees n row (suc (suc (suc (suc (suc i))))))
    (with_last_row_finished (says (joined part ++ w) now))
    (signature_part row.signature i (verdict_change_text row.verdict) w now is.signature (omega arith)) (agrees_more n row i g))
