-- How the program must respond to its arguments.
use Rattle.std.specs.Prelude.{◌≡◌, ◌⊎◌, ℕ, Bool, true, false, List, Option, Some, None, Ok}
use Rattle.std.specs.Prelude.{if◌then◌else◌}
use Rattle.std.specs.List.{list_any}
use Rattle.std.specs.Io.KnownBytes.{Appends, Keeps}
use Rattle.rv_fleet.specs.declared_row.Row.{Row}
use Rattle.rv_fleet.specs.declared_row.Verdict.{Verdict}
use Rattle.rv_fleet.specs.declared_row.Verdict.TheVariants as verdict
use Rattle.rv_fleet.specs.Report.{report_text}
use Rattle.rv_files.specs.Sinks.{AppendsPrefix}
use Rattle.rv_fleet.specs.declared_lists_error.JobError.{JobError}
use Rattle.rv_fleet.specs.declared_job.Job.{Job}
use Rattle.rv_files.specs.Files.{FileContents}
use Rattle.rv_cli.specs.RvfleetCommand.{Request, one, raw, run}
use Rattle.rvfleet_app.specs.declared.error.Failure.{Failure}
use Rattle.rvfleet_app.specs.Failures.{is_list_failure, is_raw_failure, is_write_failure}
use Rattle.rvfleet_app.specs.Lines.{IsLineWritten, bad_arguments_line, failure_line, fault_line}
use Rattle.rvfleet_app.specs.ElfImage.{script_bytes, is_bad_image_request, is_bad_path, single_image_jobs}
use Rattle.rvfleet_app.specs.Plans.{AreJobRows, IsPossibleListError, IsPossibleList, Stored}
use Rattle.rvfleet_app.specs.FlatImage.{AreRawRows}

-- ---- rejected arguments

-- whether the arguments are rejected: they make no request, or the path or the digits of their request are invalid
abbrev pub is_request_rejected : Option Request → Bool
is_request_rejected (Some (raw budget)) = false
is_request_rejected (Some (one path budget digits)) = is_bad_image_request path digits
is_request_rejected (Some (run path workers group)) = is_bad_path path
is_request_rejected None = true

-- the request runs the list at a path, and the store can have an invalid list with this error there; `contents` are the store's contents,
-- if they are known
abbrev pub IsListErrorOf : Option Request → Option FileContents → JobError → Type 0
IsListErrorOf (Some (raw budget)) contents error = ⊥
IsListErrorOf (Some (one path budget digits)) contents error = ⊥
IsListErrorOf (Some (run path workers group)) contents error = IsPossibleListError contents path error
IsListErrorOf None contents error = ⊥

-- the request runs the list at a path, and the store can have an invalid list there
abbrev pub HasListError : Option Request → Stored → Type 0
HasListError request store = (error : JobError) × IsListErrorOf request store.contents error

-- ---- the rows of a request

-- whether a request reads a file from the store
abbrev pub reads_store : Option Request → Bool
reads_store (Some (raw budget)) = false
reads_store (Some (one path budget digits)) = true
reads_store (Some (run path workers group)) = true
reads_store None = false

-- whether a request reads standard input
abbrev pub reads_input : Option Request → Bool
reads_input (Some (raw budget)) = true
reads_input (Some (one path budget digits)) = false
reads_input (Some (run path workers group)) = false
reads_input None = false

-- `rows` is the row of the single job with this path, this budget and the console input that the digits encode
abbrev pub AreImageRows : Stored → List ℕ → ℕ → Option (List ℕ) → List Row → Type 0
AreImageRows store path budget digits rows = (script : List ℕ) × ((script_bytes digits ≡ Ok script)
    × AreJobRows store (single_image_jobs path budget script) rows)

-- `rows` are the rows of the jobs of a list that the store can have at the path
abbrev pub AreListRows : Stored → List ℕ → List Row → Type 0
AreListRows store path rows =
    (jobs : List Job) × (IsPossibleList store.contents path jobs × AreJobRows store jobs rows)

-- `rows` are the rows of the report that a request makes, for this input and this store
abbrev pub AreRows : Option Request → Option (List ℕ) → Stored → List Row → Type 0
AreRows (Some (raw budget)) input store rows = AreRawRows input budget rows
AreRows (Some (one path budget digits)) input store rows = AreImageRows store path budget digits rows
AreRows (Some (run path workers group)) input store rows = AreListRows store path rows
AreRows None input store rows = ⊥

-- ---- the report

-- whether a verdict is `fail`
abbrev pub is_fail_verdict : Verdict → Bool
is_fail_verdict verdict.Unasked = false
is_fail_verdict verdict.Pass = false
is_fail_verdict verdict.Fail = true

-- whether the verdict of at least one row is `fail`
abbrev pub has_failed_row : List Row → Bool
has_failed_row rows = list_any (λ row. is_fail_verdict row.verdict) rows

-- the exit status of a report with these rows: 1 if a verdict is `fail`, else 0
abbrev pub verdicts_status : List Row → ℕ
verdicts_status rows = if has_failed_row rows then 1 else 0

-- the report of these rows was appended to the output `before`, which became `after`, and `status` is the exit status that belongs to it
pub record IsReportSent (before after : Option (List ℕ)) (status : ℕ) (rows : List Row) : Type 0 where
  pub appended : Appends before after (report_text rows)
  pub verdicts : status ≡ verdicts_status rows

-- a prefix of the report of these rows was appended to the output `before`, which became `after`
abbrev pub IsReportPrefixWritten : Option (List ℕ) → Option (List ℕ) → List Row → Type 0
IsReportPrefixWritten before after rows = AppendsPrefix before after (report_text rows)

-- ---- the response

-- how the program responds to a request: if the status is 0 or 1, its report was written; if it is 2, nothing was written, because the
-- arguments are rejected or the list is invalid; if it is 3, nothing or a prefix of the report was written
pub record IsResponse (request : Option Request) (input : Option (List ℕ)) (store : Stored)
    (before after : Option (List ℕ)) (status : ℕ) : Type 0 where
  pub reported : status ≡ 0 ⊎ status ≡ 1
      → (rows : List Row) × (AreRows request input store rows × IsReportSent before after status rows)
  pub accepted : status ≡ 0 ⊎ status ≡ 1 → is_request_rejected request ≡ false
  pub refused : status ≡ 2
      → Keeps before after × (is_request_rejected request ≡ true ⊎ HasListError request store)
  pub failed : status ≡ 3 → Keeps before after
      ⊎ ((rows : List Row) × (AreRows request input store rows × IsReportPrefixWritten before after rows))

-- ---- the line on standard error

-- a line was written that says why a request is rejected: the arguments are invalid, or the list has this error
abbrev pub ReportsRejection : Option Request → Option FileContents
    → Option (List ℕ) → Option (List ℕ) → ℕ → ℕ → Type 0
ReportsRejection request contents before after failures_before failures_after =
    ((is_request_rejected request ≡ true)
    × IsLineWritten before after failures_before failures_after bad_arguments_line)
    ⊎ ((error : JobError) × (IsListErrorOf request contents error
    × IsLineWritten before after failures_before failures_after (fault_line error)))

-- whether the program can have this failure when it responds to the request, or, without a request, when it writes the help
abbrev pub may_fail : Option Request → Failure → Bool
may_fail (Some (raw budget)) failure = is_raw_failure failure
may_fail (Some (one path budget digits)) failure = is_write_failure failure
may_fail (Some (run path workers group)) failure = is_list_failure failure
may_fail None failure = is_write_failure failure

-- a line was written that reports a failure which the program can have when it responds to the request
abbrev pub ReportsFailure : Option Request → Option (List ℕ) → Option (List ℕ) → ℕ → ℕ → Type 0
ReportsFailure request before after failures_before failures_after =
    (failure : Failure) × ((may_fail request failure ≡ true)
    × IsLineWritten before after failures_before failures_after (failure_line failure))

-- nothing was written, and no write failed
abbrev pub IsQuiet : Option (List ℕ) → Option (List ℕ) → ℕ → ℕ → Type 0
IsQuiet before after failures_before failures_after =
    Keeps before after × (failures_after ≡ failures_before)

-- if the status is 2 or 3, a line was written that says why; if it is 0 or 1, nothing was written
pub record ReportsReason (request : Option Request) (contents : Option FileContents)
    (before after : Option (List ℕ)) (failures_before failures_after : ℕ) (status : ℕ)
    : Type 0 where
  pub quiet : status ≡ 0 ⊎ status ≡ 1 → IsQuiet before after failures_before failures_after
  pub refused : status ≡ 2 → ReportsRejection request contents before after failures_before failures_after
  pub failed : status ≡ 3 → ReportsFailure request before after failures_before failures_after
