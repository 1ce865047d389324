use Rattle.std.proofs.Common.{append-nil, append_assoc}
use Rattle.rv_diff.proofs.diff.push_step_sums.Goals as goal

pub returns-in-Some : goal.returns-in-Some
returns-in-Some c = rw c.in-Some.is (simp append_assoc (simp append-nil at c.push_spans.ensures))
