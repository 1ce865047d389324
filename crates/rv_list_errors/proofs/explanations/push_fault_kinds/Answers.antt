use Rattle.rv_list_errors.specs.Explanation.{first_fault_kinds_text}
use Rattle.rv_list_errors.proofs.FaultKinds.{one_kind_more}
use Rattle.rv_list_errors.proofs.NamesTold.{adds_nothing}
use Rattle.rv_list_errors.proofs.explanations.push_fault_kinds.Goals as goal

pub loop-index-init : goal.loop-index-init
unfolding first_fault_kinds_text
loop-index-init c = adds_nothing c.args.message.now

pub loop-index-preserved : goal.loop-index-preserved
loop-index-preserved c =
    one_kind_more c.args.message.now c.loop-index.message c.push_fault_kind.new.message c.loop-index.index
    c.loop-index.invariant c.push_fault_kind.ensures
