use Rattle.std.proofs.Common.{rules}
use Rattle.rvfleet_app.proofs.report_output.verdicts_status.Goals as goal

pub returns-then-has_failed_row-clause-value : goal.returns-then-has_failed_row-clause-value
returns-then-has_failed_row-clause-value c = search rules
