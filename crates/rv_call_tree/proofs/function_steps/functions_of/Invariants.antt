use Rattle.std.proofs.Common.{take}
use Rattle.rv_call_tree.specs.Profiles.{AreFunctionsOf}
use Rattle.rv_call_tree.proofs.function_steps.functions_of.Given as goal

abbrev pub invariant-loop-node : goal.invariant-loop-node
invariant-loop-node l = AreFunctionsOf (take l.node-index l.nodes) l.functions.items
