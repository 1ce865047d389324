use Rattle.std.proofs.Common.{◌+◌, ℕ, List, sym, subst, take}
use Rattle.rv_call_tree.specs.Profiles.{AreFunctionsOf}
use Rattle.rv_call_tree.proofs.Functions.{next_functions}
use Rattle.rv_call_tree.proofs.function_steps.functions_of.Goals as goal

pub loop-node-preserved : goal.loop-node-preserved
loop-node-preserved c =
    let nodes = c.args.nodes.now in
    let k = c.loop-node.node-index in
    subst (λ (fs : List ℕ). AreFunctionsOf (take (k + 1) nodes) fs) (sym c.in_ok-add_function.ensures)
    (next_functions nodes c.loop-node.functions.items k _ c.loop-node-test.true c.loop-node.invariant)
