-- The report of chosen rows: what goes to a file as they come, and its last line.
use Rattle.std.proofs.Common.{◌≡◌, ◌∙◌, ◌==◌, ◌+◌, ◌-◌, ◌<◌, ◌≤◌, ◌++◌, ◌∷◌, ℕ, suc, Bool, true, false, List, [], Option, Some, None}
use Rattle.std.proofs.Common.{ap, arith, get_or, length, refl, sym, take}
use Rattle.std.proofs.lemmas.Bool.{eqb-true}
use Rattle.std.specs.List.{All, concat}
use Rattle.std.specs.List.Sorted.{IsStrictlyIncreasing}
use Rattle.std.specs.Prelude.{if◌then◌else◌}
use Rattle.rv_rows.specs.Report.{done_line, report_text, row_text, rows_text}
use Rattle.rv_rows.specs.Saved.{extent_line, numbered_rows_text, saved_text}
use Rattle.rv_rows.specs.declared_row.Row.{Row}
use Rattle.rv_rows.specs.declared_saved.Extent.{Extent}
use Rattle.rv_rows.specs.declared_saved.Extent.TheVariants as extent
use Rattle.rv_rows.specs.declared_saved.Shard.{Shard}
use Rattle.rv_stream.specs.Streams.{joined_row_texts, row_texts}
use Rattle.rvtest_app.specs.IntoReports.{streamed_rows, run_report_rest, run_report_text}
use Rattle.rvtest_app.specs.RunOutput.{chosen_last_line, chosen_report_text, job_numbers, part_text}
use Rattle.rvtest_app.proofs.Numbers.{behind, fit_behind, next}

-- rows under the numbers of jobs are told at the jobs' places
numbered_joined : (indices : List ℕ) (rows : List Row) → numbered_rows_text (job_numbers indices) rows ≡ joined_row_texts row_text indices rows
unfolding numbered_rows_text
numbered_joined [] rows = refl
numbered_joined (p ∷ ps) [] = refl
numbered_joined (p ∷ ps) (row ∷ rows) =
    let is : p + 1 - 1 ≡ p = omega arith in
    ap (λ (k : ℕ). row_text k row ++ numbered_rows_text (job_numbers ps) rows) is
    ∙ ap (λ (t : List ℕ). row_text p row ++ t) (numbered_joined ps rows)

-- rows of all jobs from one on
rows_joined : (index last : ℕ) (indices : List ℕ) (rows : List Row) → IsStrictlyIncreasing indices
    → All (λ index. index < last) indices → (0 < length indices → index ≤ get_or indices 0 0)
    → index + length indices ≡ last → length rows ≡ length indices
    → rows_text index rows ≡ joined_row_texts row_text indices rows
unfolding rows_text
rows_joined index last [] [] up within low all even = refl
rows_joined index last [] (row ∷ rows) up within low all even = absurd (omega (arith, even))
rows_joined index last (p ∷ ps) [] up within low all even = absurd (omega (arith, even))
rows_joined index last (p ∷ ps) (row ∷ rows) up within low all even =
    let first : index ≤ p = low (omega arith) in
    let below : p < last = within 0 0 (omega arith) in
    let rest : (p + 1) + length ps ≤ last = fit_behind (p + 1) last ps (behind p ps up)
    (λ k d inside. within (suc k) d (omega arith)) (omega (arith, below))
    (λ some. let n = next p ps up some in omega arith) in
    let is : index ≡ p = omega (arith, first, rest, all) in
    ap (λ (k : ℕ). row_text k row ++ rows_text (index + 1) rows) is
    ∙ ap (λ (t : List ℕ). row_text p row ++ t)
    (rows_joined (index + 1) last ps rows (behind p ps up) (λ k d inside. within (suc k) d (omega arith))
    (λ some. let n = next p ps up some in omega (arith, n, is)) (omega (arith, all)) (omega (arith, even)))

part_split : (jobs : Extent) (indices : List ℕ) (rows : List Row)
    → part_text jobs indices rows ≡ joined_row_texts row_text indices rows ++ extent_line jobs (length rows)
unfolding saved_text
part_split jobs indices rows = ap (λ (t : List ℕ). t ++ extent_line jobs (length rows)) (numbered_joined indices rows)

whole_split : (indices : List ℕ) (rows : List Row) → IsStrictlyIncreasing indices → All (λ index. index < length indices) indices
    → length rows ≡ length indices
    → report_text rows ≡ joined_row_texts row_text indices rows ++ extent_line extent.Whole (length rows)
unfolding report_text extent_line
whole_split indices rows up within even =
    ap (λ (t : List ℕ). t ++ done_line (length rows))
    (rows_joined 0 (length indices) indices rows up within (λ some. omega arith) (omega arith) even)

choice_split : (jobs : ℕ) (indices : List ℕ) (rows : List Row) (all : Bool) → (length indices == jobs) ≡ all
    → IsStrictlyIncreasing indices → All (λ index. index < jobs) indices → length rows ≡ length indices
    → (if all then report_text rows else part_text (extent.Selection jobs) indices rows)
    ≡ joined_row_texts row_text indices rows
    ++ extent_line (if all then extent.Whole else extent.Selection jobs) (length rows)
choice_split jobs indices rows true is up within even =
    let same : length indices ≡ jobs = eqb-true (length indices) jobs is in
    whole_split indices rows up (λ k d inside. let low = within k d inside in omega (arith, low, same)) even
choice_split jobs indices rows false is up within even = part_split (extent.Selection jobs) indices rows

-- the report of chosen rows in two
chosen_split : (jobs : ℕ) (indices : List ℕ) (shard : Option Shard) (rows : List Row) → IsStrictlyIncreasing indices
    → All (λ index. index < jobs) indices → length rows ≡ length indices
    → chosen_report_text jobs indices shard rows
    ≡ joined_row_texts row_text indices rows ++ chosen_last_line jobs indices shard rows
chosen_split jobs indices (Some shard) rows up within even = part_split (extent.Shard shard) indices rows
chosen_split jobs indices None rows up within even =
    choice_split jobs indices rows (length indices == jobs) refl up within even

-- the report of a run in two: what goes to a file as the rows come, and the rest
pub run_report_split : (old : Option (List Row)) (jobs : ℕ) (indices : List ℕ) (shard : Option Shard) (rows : List Row)
    → IsStrictlyIncreasing indices → All (λ index. index < jobs) indices → length rows ≡ length indices
    → streamed_rows old indices rows ++ run_report_rest old jobs indices shard rows ≡ run_report_text old jobs indices shard rows
run_report_split None jobs indices shard rows up within even = sym (chosen_split jobs indices shard rows up within even)
run_report_split (Some old) jobs indices shard rows up within even = refl

-- rows are told at their own places, whatever places come behind these
texts_of_shown : (line : ℕ → Row → List ℕ) (indices : List ℕ) (rows : List Row)
    → row_texts line (take (length rows) indices) rows ≡ row_texts line indices rows
texts_of_shown line [] [] = refl
texts_of_shown line [] (row ∷ rows) = refl
texts_of_shown line (index ∷ indices) [] = refl
texts_of_shown line (index ∷ indices) (row ∷ rows) = ap (λ texts. line index row ∷ texts) (texts_of_shown line indices rows)

pub ahead_of_shown : (old : Option (List Row)) (indices : List ℕ) (rows : List Row)
    → streamed_rows old (take (length rows) indices) rows ≡ streamed_rows old indices rows
ahead_of_shown (Some old) indices rows = refl
ahead_of_shown None indices rows = ap concat (texts_of_shown row_text indices rows)
