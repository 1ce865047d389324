use Rattle.std.proofs.Common.{arith, refl}
use Rattle.std.proofs.lemmas.Result.{err_from_is_err_and}
use Rattle.rv_count_tables.proofs.Public.{no_images_rise}
use Rattle.rvtest_app.proofs.AddedTables.{one_more_table, unadded_table}
use Rattle.rvtest_app.proofs.counts.sum_of_paths.Goals as goal

pub loop-path-init : goal.loop-path-init
loop-path-init g c =
    rw (c.new-2.ensures, c.new.ensures.items)
    (refl, record { images = tt; rising = no_images_rise _; few = omega (arith); runs = omega (arith) })

pub loop-path-preserved : goal.loop-path-preserved
loop-path-preserved g c = (
  one_more_table (g.D.Inputs.contents c.args.inputs.now) c.args.paths.now c.loop-path.path-index _
      c.loop-path.sum c.in_ok-sum.sum c.loop-path-test.true c.loop-path.invariant.0 c.in_ok-sum.ensures.added,
  c.in_ok-sum.ensures.valid_table,
)

pub returns-in_err-sum-clause-stopped : goal.returns-in_err-sum-clause-stopped
returns-in_err-sum-clause-stopped g c =
    let error = err_from_is_err_and c.from_residual.result c.from_residual.ensures.1 in
    rw (error.1, error.2)
    (unadded_table (g.D.Inputs.contents c.args.inputs.now) c.args.paths.now c.loop-path.path-index _ c.loop-path.sum _
    c.loop-path-test.true c.loop-path.invariant.0 c.in_err-sum.ensures.stopped)
