use Rattle.std.proofs.Common.{inl, inr, refl}
use Rattle.rv_command.proofs.SavedRows.{few_rows}
use Rattle.rv_command.proofs.Told.{told_stop}
use Rattle.rv_command.proofs.saved_report.parse_report.Goals as goal

pub returns-in-Ok-clause-report : goal.returns-in-Ok-clause-report
returns-in-Ok-clause-report c =
    record { saved = c.in-Ok.ensures.report.0; text = c.in-Ok.ensures.report.1 }

pub returns-in-Ok-clause-at_most_max : goal.returns-in-Ok-clause-at_most_max
returns-in-Ok-clause-at_most_max c = few_rows c.in-Ok.report c.in-Ok.ensures.report.0

pub returns-in-Err-OutOfMemory-clause-stopped : goal.returns-in-Err-OutOfMemory-clause-stopped
returns-in-Err-OutOfMemory-clause-stopped c = record { reported = inl refl; report_prefix = λ line_starts_with. inl refl; valid_report = λ report is. refl }

pub returns-in-Err-Truncated-clause-stopped : goal.returns-in-Err-Truncated-clause-stopped
returns-in-Err-Truncated-clause-stopped c =
    let least = rw c.in-Err-Truncated.field-0-is at c.in-Err-Truncated.ensures.first_error in
    let only = rw c.in-Err-Truncated.field-0-is at c.in-Err-Truncated.ensures.accepts in
    let told = told_stop _ _ _ _ c.rejection.ensures c.path_message-message.ensures in
    record {
      reported = inr (inr (least, told));
      report_prefix = λ line_starts_with. told;
      valid_report = λ report is. let memory = only report is.saved is.text in cc;
    }

pub returns-in-Err-Line-clause-stopped : goal.returns-in-Err-Line-clause-stopped
returns-in-Err-Line-clause-stopped c =
    let least = rw c.in-Err-Line.field-0-is at c.in-Err-Line.ensures.first_error in
    let cut = rw c.in-Err-Line.field-0-is at c.in-Err-Line.ensures.truncated in
    let only = rw c.in-Err-Line.field-0-is at c.in-Err-Line.ensures.accepts in
    record {
      reported = inr (inl (c.in-Err-Line.line, least, c.report_line_stop.ensures));
      report_prefix = λ line_starts_with. let other = cut line_starts_with in cc;
      valid_report = λ report is. let memory = only report is.saved is.text in cc;
    }
