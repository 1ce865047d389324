use Rattle.std.proofs.Common.{◌∷◌, [], List, length, sym, ap, subst, arith, length-append}
use Rattle.rv_stacks.specs.declared.node.WalkNode.{WalkNode}
use Rattle.rv_stacks.specs.Nodes.{HasChild, IsChild}
use Rattle.rv_stacks.proofs.Growing.{found_child, made_child}
use Rattle.rv_stacks.proofs.node.number_of_child.Goals as goal

pub returns-in-Some : goal.returns-in-Some
returns-in-Some c = found_child c.args.parent c.args.function c.in-Some.number c.args.nodes.now.items
    (subst (λ (ns : List WalkNode). IsChild c.args.parent c.args.function c.in-Some.number ns) c.as_slice.ensures.value c.in-Some.ensures)

pub returns : goal.returns
returns c =
    let old = c.args.nodes.now.items in
    let fresh : WalkNode = record { parent = c.args.parent; function = c.args.function; calls = 0; steps = 0 } in
    let e = c.len-number.ensures in
    let extended_block = ap length c.in_ok-push.ensures.items in
    let one = length-append old (fresh ∷ []) in
    subst (λ (ns : List WalkNode). HasChild c.args.parent c.args.function old c.len-number.result ns) (sym c.in_ok-push.ensures.items)
    (made_child c.args.parent c.args.function old c.requires c.len-number.result (omega (arith, e, extended_block, one)))
