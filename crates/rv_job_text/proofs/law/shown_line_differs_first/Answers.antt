use Rattle.rv_job_text.proofs.FirstLines.{differ_first}
use Rattle.rv_job_text.proofs.law.shown_line_differs_first.Goals as goal

pub returns : goal.returns
returns c = differ_first
