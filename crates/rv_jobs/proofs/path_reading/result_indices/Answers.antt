use Rattle.std.proofs.Common.{length, length-append, ap, arith}
use Rattle.rv_jobs.specs.declared.path_reading.PartialResultIndices.{PartialResultIndices}
use Rattle.rv_jobs.specs.Plans.{paths_of}
use Rattle.rv_jobs.proofs.Noting.{found_more}
use Rattle.rv_jobs.proofs.path_reading.result_indices.Goals as goal

pub loop-at-preserved : goal.loop-at-preserved
loop-at-preserved c =
    let inv = c.loop-at.invariant in (
      omega (arith, ap (length {A = PartialResultIndices}) c.in_ok-push.ensures.items, length-append {A = PartialResultIndices}, inv.0),
      found_more (paths_of c.args.results.now) c.args.jobs.now c.loop-at.indices.items c.push.new.self.items c.loop-at.at
          c.index-jobs-at.result c.result_indices_of_job.result c.loop-at-test.true c.index-jobs-at.is inv.0
          c.in_ok-push.ensures.items
          c.result_indices_of_job.ensures inv.1,
    )
