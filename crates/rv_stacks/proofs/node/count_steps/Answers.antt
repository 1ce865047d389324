use Rattle.std.proofs.Common.{◌-◌, ◌+◌, ◌∷◌, ℕ, [], ap, arith, refl, set, subst}
use Rattle.rv_stacks.specs.declared.node.WalkNode.{WalkNode}
use Rattle.rv_stacks.specs.Nodes.{StepsMore}
use Rattle.rv_stacks.proofs.Growing.{stepped_more}
use Rattle.rv_stacks.proofs.Nodes.{at_most_all}
use Rattle.rv_stacks.proofs.node.count_steps.Goals as goal

pub overflow_add-old : goal.overflow_add-old
overflow_add-old c =
    let some = c.requires.positive in
    let within = c.requires.within in
    let most = at_most_all (λ p n. n.steps) ([] ∷ []) c.args.nodes.now.items (c.args.number - 1) c.index-old.result.now
    (omega (arith, some, within)) (λ p n. refl) in
    let there = ap (λ (n : WalkNode). n.steps) c.index-old.ensures in
    let few = c.requires.steps_fit in
    let fits = c.ranges.steps.fits in
    omega (arith, most, there, few, fits)

pub returns : goal.returns
returns c =
    let old = c.index-old.result.now in
    subst (λ (k : ℕ). StepsMore k c.args.number c.args.nodes.now.items (set c.args.nodes.now.items (c.args.number - 1)
    (record { parent = old.parent; function = old.function; calls = old.calls; steps = old.steps + c.from.result })))
    c.from.ensures
    (stepped_more c.args.nodes.now.items c.args.number c.requires.positive c.requires.within old c.index-old.ensures c.from.result)
