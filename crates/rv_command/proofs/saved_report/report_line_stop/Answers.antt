use Rattle.rv_command.proofs.Told.{told_stop}
use Rattle.rv_command.proofs.saved_report.report_line_stop.Goals as goal

pub returns : goal.returns
returns c = told_stop _ _ _ _ c.rejection.ensures c.invalid_line_message-message.ensures
