use Rattle.rv_job_text.specs.MetLines.{met_line}
use Rattle.rv_expect.specs.Comparisons.{comparison_view}
use Rattle.rv_text.proofs.Public.{all_told, one_more}
use Rattle.rv_job_text.proofs.met_line.push_each_met_line.Goals as goal

pub loop-one-preserved : goal.loop-one-preserved
loop-one-preserved c =
    one_more (met_line (comparison_view c.args.comparison.now) c.args.unmet.now) c.args.expectations.now c.loop-one.one-index
    _ _ _ _ c.loop-one-test.true c.loop-one.invariant c.in_ok-push_met_line.ensures

pub returns : goal.returns
returns c =
    all_told (met_line (comparison_view c.args.comparison.now) c.args.unmet.now) c.args.expectations.now c.loop-one.one-index
    _ _ c.loop-one-test.false c.loop-one.invariant
