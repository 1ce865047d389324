use Rattle.std.proofs.Common.{refl}
use Rattle.rv_report.proofs.read.FirstWordState.can_begin_report_line.Goals as goal

pub returns-in-Ended : goal.returns-in-Ended
returns-in-Ended c = rw c.in-Ended.is refl
