use Rattle.std.proofs.Common.{inr}
use Rattle.rv_command.proofs.PartialFaults.{not_short_of_memory, told_line}
use Rattle.rv_command.proofs.SavedRows.{few_rows}
use Rattle.rv_command.proofs.requested_report.parse_partial_report.Goals as goal

pub returns-in-Ok-clause-at_most_max : goal.returns-in-Ok-clause-at_most_max
returns-in-Ok-clause-at_most_max c = few_rows c.in-Ok.report.report c.in-Ok.ensures.valid

pub returns-in-Err-Line-clause-stopped : goal.returns-in-Err-Line-clause-stopped
returns-in-Err-Line-clause-stopped c =
    let line = c.in-Err-Line.line in
    let refused = rw c.in-Err-Line.field-0-is at c.in-Err-Line.ensures.error in
    let beginning = rw c.in-Err-Line.field-0-is at c.in-Err-Line.ensures.prefix in record {
      reported = inr (line, told_line line c.args.text.now refused, c.report_line_stop.ensures);
      report_prefix = λ line_starts_with. not_short_of_memory line (beginning line_starts_with);
    }
