use Rattle.rv_job_text.proofs.FirstLines.{complete_lines-flat}
use Rattle.rv_job_text.proofs.law.lines_are_the_text.Goals as goal

pub returns : goal.returns
returns c = complete_lines-flat
