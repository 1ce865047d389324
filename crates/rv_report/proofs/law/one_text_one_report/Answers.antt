use Rattle.rv_report.proofs.Reports.{same_reports}
use Rattle.rv_report.proofs.law.one_text_one_report.Goals as goal

pub returns : goal.returns
returns c = same_reports
