use Rattle.rv_report.proofs.FirstInvalidLine.{lines_stay}
use Rattle.rv_report.proofs.law.lenient_report_keeps_first_lines.Goals as goal

pub returns : goal.returns
returns c = lines_stay
