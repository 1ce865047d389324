use Rattle.std.proofs.Common.{append_assoc}
use Rattle.rv_report.specs.Saved.{extent_line}
use Rattle.rv_report.proofs.saved_report_text.push_extent_line.Goals as goal

pub returns-in-Selection : goal.returns-in-Selection
unfolding extent_line
returns-in-Selection c = rw c.in-Selection.is (simp append_assoc c.write.ensures.bytes)
