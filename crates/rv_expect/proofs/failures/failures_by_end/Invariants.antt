use Rattle.std.proofs.Common.{◌≡◌, take}
use Rattle.rv_expect.specs.FailureKinds.{failures_by_end}
use Rattle.rv_expect.specs.Judgement.{judge_view}
use Rattle.rv_expect.proofs.failures.failures_by_end.Given as goal

abbrev pub invariant-loop-row : goal.invariant-loop-row
invariant-loop-row l = l.failures.items ≡ failures_by_end (judge_view l.judge) (take l.row-index l.rows)
