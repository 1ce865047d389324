use Rattle.std.proofs.Common.{◌-◌, ◌∷◌, [], ap, arith, refl}
use Rattle.rv_stacks.specs.declared.node.WalkNode.{WalkNode}
use Rattle.rv_stacks.proofs.Growing.{arrived_once}
use Rattle.rv_stacks.proofs.Nodes.{at_most_all}
use Rattle.rv_stacks.proofs.node.count_call.Goals as goal

pub overflow_add-old : goal.overflow_add-old
overflow_add-old c =
    let some = c.requires.positive in
    let within = c.requires.within in
    let most = at_most_all (λ p n. n.calls) ([] ∷ []) c.args.nodes.now.items (c.args.number - 1) c.index-old.result.now
    (omega (arith, some, within)) (λ p n. refl) in
    let there = ap (λ (n : WalkNode). n.calls) c.index-old.ensures in
    let few = c.requires.calls_fit in
    omega (arith, most, there, few)

pub returns : goal.returns
returns c = arrived_once c.args.nodes.now.items c.args.number c.requires.positive c.requires.within c.index-old.result.now c.index-old.ensures
