use Rattle.rv_report.proofs.Wholes.{whole_text}
use Rattle.rv_report.proofs.law.whole_text_is_report_text.Goals as goal

pub returns : goal.returns
returns c = whole_text
