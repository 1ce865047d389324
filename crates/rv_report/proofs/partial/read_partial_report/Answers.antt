use Rattle.std.proofs.Common.{inr, refl}
use Rattle.rv_report.specs.LenientReport.{lenient_report}
use Rattle.rv_report.proofs.PartialReports.{saved_read, whole_rows}
use Rattle.rv_report.proofs.partial.read_partial_report.Goals as goal

pub returns-in_ok-report-in-Err-Truncated-clause-truncation : goal.returns-in_ok-report-in-Err-Truncated-clause-truncation
returns-in_ok-report-in-Err-Truncated-clause-truncation c =
    let bytes = c.args.bytes.now in
    let least = rw c.in-Err-Truncated.field-0-is at c.in-Err-Truncated.ensures.first_error in
    let only = rw c.in-Err-Truncated.field-0-is at c.in-Err-Truncated.ensures.accepts in
    let rows = c.in_ok-report-in-Err-Truncated.ensures.rows in (
      λ report is same. let memory = only report is same in cc,
      (lenient_report bytes, rows.0, whole_rows bytes rows.0 least (rows.2, rows.3, rows.4), rows.1),
    )

pub returns-in_ok-report-in-Err-Truncated-clause-valid : goal.returns-in_ok-report-in-Err-Truncated-clause-valid
returns-in_ok-report-in-Err-Truncated-clause-valid c =
    let rows = c.in_ok-report-in-Err-Truncated.ensures.rows in
    saved_read c.args.bytes.now rows.0 c.in_ok-report-in-Err-Truncated.report rows.1 rows.2

pub returns-in-Err-Line : goal.returns-in-Err-Line
returns-in-Err-Line c =
    let bytes = c.args.bytes.now in
    let least = rw c.in-Err-Line.field-0-is at c.in-Err-Line.ensures.first_error in
    let cut = rw c.in-Err-Line.field-0-is at c.in-Err-Line.ensures.truncated in record {
      truncation = tt;
      valid = tt;
      prefix = λ begins. let other = cut begins in cc;
      error = inr (c.in-Err-Line.line, refl, least);
    }
