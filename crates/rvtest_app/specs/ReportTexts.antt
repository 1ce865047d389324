-- The texts of reports.
use Rattle.std.specs.Prelude.{ℕ, List}
use Rattle.rv_rows.specs.Report.{report_text}
use Rattle.rv_rows.specs.declared_row.Row.{Row}
use Rattle.rvtest_app.specs.IntoReports.{merged_rows}
use Rattle.rvtest_app.specs.RunOutput.{chosen_last_line, chosen_report_text}
use Rattle.rvtest_app.specs.declared.report_texts.ReportText.{ReportText}
use Rattle.rvtest_app.specs.declared.report_texts.ReportText.TheVariants as report

-- the text of a report: of all rows; of a shard or of chosen jobs; or of an old report in which the run's rows replace the old ones
abbrev pub report_text_of : ReportText → List ℕ
report_text_of (report.Whole rows) = report_text rows
report_text_of (report.Chosen chosen shard) = chosen_report_text chosen.jobs chosen.indices.now shard chosen.rows
report_text_of (report.Into into) = report_text (merged_rows into.chosen.indices.now into.chosen.rows into.old)

-- the part of a report that is written after all jobs have finished: only the last line if the rows were written early, else the whole
-- report
abbrev pub report_rest_of : ReportText → List ℕ
report_rest_of (report.Whole rows) = report_text rows
report_rest_of (report.Chosen chosen shard) = chosen_last_line chosen.jobs chosen.indices.now shard chosen.rows
report_rest_of (report.Into into) = report_text (merged_rows into.chosen.indices.now into.chosen.rows into.old)

-- the rows of the run, without those of an old report
abbrev pub report_rows : ReportText → List Row
report_rows (report.Whole rows) = rows
report_rows (report.Chosen chosen shard) = chosen.rows
report_rows (report.Into into) = into.chosen.rows
