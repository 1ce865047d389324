use Rattle.std.proofs.Common.{rules}
use Rattle.rv_report.specs.Report.{done_line}
use Rattle.rv_report.proofs.report.push_done_line.Goals as goal

pub returns : goal.returns
unfolding done_line
returns c = search rules
