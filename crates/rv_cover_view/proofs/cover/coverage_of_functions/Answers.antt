-- The codes of one function more.
use Rattle.rv_cover_view.proofs.Summing.{one_function_fits, one_function_more}
use Rattle.std.proofs.Common.{◌∙◌}
use Rattle.rv_cover_view.proofs.cover.coverage_of_functions.Goals as goal

pub plus-totals-requires : goal.plus-totals-requires
plus-totals-requires c = one_function_fits c.args.counts.now c.args.functions.now c.loop-function.function-index _ c.loop-function.totals
    c.totals_of_code.result c.loop-function-test.true c.requires.fits c.loop-function.invariant c.totals_of_code.ensures

pub loop-function-preserved : goal.loop-function-preserved
loop-function-preserved c = c.plus-totals.ensures
    ∙ one_function_more c.args.counts.now c.args.functions.now c.loop-function.function-index _ c.loop-function.totals
    c.totals_of_code.result c.loop-function-test.true c.loop-function.invariant c.totals_of_code.ensures
