-- The lines that `accept` prints.
use Rattle.std.specs.Prelude.{◌+◌, ◌&&◌, ◌++◌, ℕ, Bool, true, false, List, [], ◌∷◌, Option, Some, None, codes, is_some, slice_get}
use Rattle.std.specs.Fmt.{decimal}
use Rattle.std.specs.List.{count_by, flat_map}
use Rattle.rv_rows.specs.declared_job.Job.{Job}
use Rattle.rv_rows.specs.Numbers.{count_text}
use Rattle.rv_accept.specs.declared.runs.JobRun.{JobRun}
use Rattle.rv_accept_text.specs.FileLines.{file_line, skipped_file_line}
use Rattle.rv_accept_text.specs.GoldenFiles.{is_skipped, new_text}
use Rattle.rv_accept_text.specs.JobLines.{skipped_job_line, value_line}
use Rattle.rv_accept_text.specs.declared.accept_summary.AcceptSummary.{AcceptSummary}
use Rattle.rv_accept_text.specs.declared.accept_summary.Writing.{Writing}
use Rattle.rv_accept_text.specs.declared.accept_summary.Writing.TheVariants as writing
use Rattle.rv_accept_text.specs.declared.golden_file.GoldenFile.{GoldenFile}
use Rattle.rv_accept_text.specs.declared.golden_file.ListFile.{ListFile}
use Rattle.rv_accept_text.specs.declared.new_list.ChangedValue.{ChangedValue}

-- ---- the lines

-- the lines about a value in the list that changes; empty if its job or the job's run is missing
abbrev pub value_line_of : List ℕ → ChangedValue → Option Job → Option (Option JobRun) → List ℕ
value_line_of path value (Some job) (Some (Some run)) = value_line path value job run.row
value_line_of path value _ _ = []

-- the lines about a value in the list that changes
abbrev pub value_line_in : AcceptSummary → ChangedValue → List ℕ
value_line_in summary value = value_line_of summary.list.path.now value (slice_get summary.list.jobs.now value.job)
    (slice_get summary.runs.now value.job)

-- a line for each chosen job that was skipped; `all_jobs` are all jobs of the list
unfoldable pub skipped_job_lines : List Job → List Job → List (Option JobRun) → List ℕ
skipped_job_lines all_jobs [] runs = []
skipped_job_lines all_jobs (job ∷ jobs) [] = []
skipped_job_lines all_jobs (job ∷ jobs) (run ∷ runs) = skipped_job_line all_jobs job run ++ skipped_job_lines all_jobs jobs runs

-- the lines that `accept` prints: about golden files that change, values in the list that change, jobs that were skipped, and golden files
-- that were skipped
abbrev pub accept_lines : AcceptSummary → List ℕ
accept_lines summary = flat_map (file_line summary.list) summary.files.now
    ++ flat_map (value_line_in summary) summary.new.now.values.items
    ++ skipped_job_lines summary.list.jobs.now summary.list.jobs.now summary.runs.now
    ++ flat_map (skipped_file_line summary.list summary.golden_texts.now) summary.files.now

-- ---- the last line

-- whether the golden file changes
abbrev pub is_changed : ListFile → GoldenFile → Bool
is_changed list file = is_some (new_text list file)

-- 1 if the condition is true, else 0
abbrev pub one_if : Bool → ℕ
one_if true = 1
one_if false = 0

-- the number of files that change: golden files, and the list
abbrev pub changed_count : AcceptSummary → ℕ
changed_count summary = count_by (is_changed summary.list) summary.files.now + one_if (is_some summary.new.now.text)

-- whether the job was run, is chosen and was skipped
abbrev pub is_skipped_job : Option JobRun → Bool
is_skipped_job None = false
is_skipped_job (Some run) = run.is_chosen && is_some run.skip_reason

-- the number of chosen jobs and golden files that were skipped
abbrev pub skipped_count : AcceptSummary → ℕ
skipped_count summary = count_by is_skipped_job summary.runs.now + count_by (is_skipped summary.list) summary.files.now

-- ` written, ` if files were written, else ` would be written, `
abbrev pub writing_word : Writing → List ℕ
writing_word writing.Written = codes " written, "
writing_word writing.CheckOnly = codes " would be written, "

-- the last line of `accept`: how many files were written, or would be written, and how many jobs and files were skipped
abbrev pub count_line : Writing → ℕ → ℕ → List ℕ
count_line writing changed skipped = count_text changed (codes "file") ++ writing_word writing ++ decimal skipped ++ codes " skipped\n"
