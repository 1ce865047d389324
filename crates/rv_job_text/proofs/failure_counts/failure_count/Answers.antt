use Rattle.std.proofs.Common.{arith}
use Rattle.rv_expect.specs.FailureKinds.{is_same_failure_kind}
use Rattle.rv_job_text.proofs.Counts.{counted_all, counted_few, counted_more, counted_same}
use Rattle.rv_job_text.proofs.failure_counts.failure_count.Goals as goal
use Rattle.rv_job_text.proofs.failure_counts.failure_count.Goals.{else-is_same, then-is_same}

pub overflow_add-count : goal.overflow_add-count
overflow_add-count c =
    let test = is_same_failure_kind c.args.kind in
    let failures = c.args.failures.now in
    let k = c.loop-failure.failure-index in
    let few = counted_few test failures k c.loop-failure.count c.loop-failure.invariant in
    omega arith

pub loop-failure-preserved : goal.loop-failure-preserved
loop-failure-preserved c =
    let test = is_same_failure_kind c.args.kind in
    let failures = c.args.failures.now in
    let k = c.loop-failure.failure-index in
    elim c.if-is_same.branch [
      | then-is_same w ↦
          counted_more test failures k _ c.loop-failure.invariant _ c.loop-failure-test.true _ c.is_same.ensures _ w.if-is_same.true w.count-is
      | else-is_same w ↦
          counted_same test failures k _ c.loop-failure.invariant _ c.loop-failure-test.true _ c.is_same.ensures _ w.if-is_same.false w.count-is
    ]

pub returns : goal.returns
returns c =
    let test = is_same_failure_kind c.args.kind in
    let failures = c.args.failures.now in
    let k = c.loop-failure.failure-index in
    counted_all test failures k _ c.loop-failure.invariant c.loop-failure-test.false
