-- Golden texts: what the jobs that were run would write to their golden files.
use Rattle.std.specs.Prelude.{Bool, Some, None, Option, ℕ, List, [], ◌∷◌, ◌++◌, ◌+◌, if◌then◌else◌, is_some, not}
use Rattle.rv_rows.specs.declared_job.Job.{Job}
use Rattle.rv_rows.specs.Jobs.{console_path}
use Rattle.rv_rows.specs.declared_row.Row.{Row}
use Rattle.rv_rows.specs.Verdict.{lines_of_signature}
use Rattle.rv_accept.specs.declared.golden_texts.GoldenText.{GoldenText}
use Rattle.rv_accept.specs.declared.golden_texts.GoldenKind.{GoldenKind}
use Rattle.rv_accept.specs.declared.golden_texts.GoldenKind.TheVariants as golden_kind
use Rattle.rv_accept.specs.declared.runs.JobRun.{JobRun}

-- the text if the condition is true, else `None`
abbrev pub text_if : Bool → List ℕ → Option (List ℕ)
text_if accepted text = if accepted then Some text else None

-- the golden text of the job with index `job` for the file at this path, as a list; empty if no path is given
abbrev pub golden_text_if_named : ℕ → GoldenKind → Option (List ℕ) → Option (List ℕ) → List GoldenText
golden_text_if_named job kind text None = []
golden_text_if_named job kind text (Some path) = record { job = job; kind = kind; path = path; text = text } ∷ []

-- the golden texts of a job, for its console and for its signature, if it names files for them; they have no text unless the job is
-- accepted
abbrev pub golden_texts_of_job : ℕ → Bool → Job → Row → List GoldenText
golden_texts_of_job index accepted job row =
    golden_text_if_named index golden_kind.Console (text_if accepted row.console) (console_path job.expect_console)
    ++ golden_text_if_named index golden_kind.Signature (text_if accepted (lines_of_signature row.signature)) job.expect_signature

-- the golden texts of a job; empty if the job was not run, and without texts if it was skipped
abbrev pub golden_texts_of_run : ℕ → Job → Option JobRun → List GoldenText
golden_texts_of_run index job None = []
golden_texts_of_run index job (Some run) = golden_texts_of_job index (not (is_some run.skip_reason)) job run.row

-- the golden texts of these jobs, in list order; `index` is the index of the first of them in the list
unfoldable pub golden_texts_of_runs : ℕ → List Job → List (Option JobRun) → List GoldenText
golden_texts_of_runs index [] runs = []
golden_texts_of_runs index (job ∷ jobs) [] = []
golden_texts_of_runs index (job ∷ jobs) (run ∷ runs) = golden_texts_of_run index job run ++ golden_texts_of_runs (index + 1) jobs runs
