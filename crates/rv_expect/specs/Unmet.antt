-- The expectations of a job that its run does not meet.
use Rattle.std.specs.Prelude.{ℕ, List, [], ◌++◌, Option, Some, None, option_map, option_to_list}
use Rattle.std.specs.Prelude.{if◌then◌else◌}
use Rattle.rv_rows.specs.declared_job.Job.{Job}
use Rattle.rv_rows.specs.declared_row.Row.{Row}
use Rattle.rv_rows.specs.declared_row.RowEnd.{RowEnd}
use Rattle.rv_rows.specs.Verdict.{has_expected_end, has_expected_exit, has_expectations, did_run}
use Rattle.rv_expect.specs.Comparisons.{ComparisonView}
use Rattle.rv_expect.specs.Difference.{console_difference, same_as_difference}
use Rattle.rv_expect.specs.Reference.{signature_difference}
use Rattle.rv_expect.specs.declared.difference.SignatureDifference.{SignatureDifference}
use Rattle.rv_expect.specs.declared.unmet.UnmetExpectation.{UnmetExpectation}
use Rattle.rv_expect.specs.declared.unmet.UnmetExpectation.TheVariants.{Exit, End, Console, Signature}
use Rattle.rv_expect.specs.declared.unmet.UnmetExpectation.TheVariants.{Same, DefaultExit}

-- the expectation of an exit code, or `None` if the job does not have it or this ending meets it
abbrev pub unmet_exit : Job → RowEnd → Option UnmetExpectation
unmet_exit job end = if has_expected_exit job.expect_exit end then None else Some Exit

-- the expectation of an end, or `None` if the job does not have it or this ending meets it
abbrev pub unmet_end : Job → RowEnd → Option UnmetExpectation
unmet_end job end = if has_expected_end job.expect_end end then None else Some End

-- the expectation of a console, or `None` if the job does not have it or the row meets it; `file` are the bytes of the file with the
-- expected text, if it was read
abbrev pub unmet_console : Job → Option (List ℕ) → Row → Option UnmetExpectation
unmet_console job file row =
    option_map Console (console_difference job.expect_console file row.console)

-- the expectation of a signature, with its difference from the actual one, or `None` if there is no difference
abbrev pub unmet_signature : Option SignatureDifference → Option UnmetExpectation
unmet_signature difference = option_map Signature difference

-- the expectation of `same_as`, or `None` if the job does not have it or the row meets it; `other` is the row of the named job, or `None`
-- if there is none
abbrev pub unmet_same_as : Job → Option Row → Row → Option UnmetExpectation
unmet_same_as job other row = option_map Same (same_as_difference job.same_as other row)

-- the default expectation, exit code 0, or `None` if this ending meets it
abbrev pub unmet_default_exit : RowEnd → Option UnmetExpectation
unmet_default_exit end = if has_expected_exit (Some 0) end then None else Some DefaultExit

-- the unmet expectations of a job that has expectations and ran, in the order exit, end, console, signature, `same_as`
abbrev pub unmet_of_expecting_job : ComparisonView → List UnmetExpectation
unmet_of_expecting_job comparison =
    option_to_list (unmet_exit comparison.job comparison.row.ending)
    ++ option_to_list (unmet_end comparison.job comparison.row.ending)
    ++ option_to_list (unmet_console comparison.job comparison.console comparison.row)
    ++ option_to_list (unmet_signature
    (signature_difference comparison.job.expect_signature comparison.reference comparison.row.signature))
    ++ option_to_list (unmet_same_as comparison.job comparison.other comparison.row)

-- the unmet expectations of a row, with the data that it is compared with; a row of a refused job has none
unfoldable pub unmet_expectations_of : ComparisonView → List UnmetExpectation
unmet_expectations_of comparison =
    if did_run comparison.row.ending then
    (if has_expectations comparison.job then unmet_of_expecting_job comparison
    else option_to_list (unmet_default_exit comparison.row.ending))
    else []
