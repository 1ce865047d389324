use Rattle.std.proofs.Common.{◌∙◌, arith, sym}
use Rattle.rv_count_tables.specs.declared_call_node.CallNode.{CallNode}
use Rattle.rv_profile.proofs.SpotSums.{all_fit, none_of_all, one_more}
use Rattle.rv_profile.proofs.sums.sums_of.Goals as goal

-- what is read where there is no spot
abbrev no_spot : CallNode
no_spot = record { depth = 0; function = 0; calls = 0; steps = 0 }

pub returns-in_err-sums : goal.returns-in_err-sums
returns-in_err-sums c =
    c.from_residual.ensures
    ∙ none_of_all c.args.nodes.now c.loop-node.node-index no_spot c.loop-node.sums c.loop-node-test.true c.loop-node.invariant.is
    (sym c.in_err-sums.was ∙ c.with_node.ensures)

pub loop-node-preserved : goal.loop-node-preserved
loop-node-preserved c =
    let more = one_more c.args.nodes.now c.loop-node.node-index no_spot c.loop-node.sums c.in_ok-sums.sums c.loop-node-test.true
    c.loop-node.invariant.is (sym c.in_ok-sums.was ∙ c.with_node.ensures) in
    record { is = more.0; few = more.1 }

pub returns : goal.returns
returns c = all_fit c.args.nodes.now c.loop-node.node-index c.loop-node.sums (omega arith) c.loop-node.invariant.is c.loop-node.invariant.few
