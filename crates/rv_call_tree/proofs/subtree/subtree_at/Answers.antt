-- A child's subtree is that of the spot where the one in front of it ends.
use Rattle.std.proofs.Common.{◌+◌, ◌-◌, drop, get_or, length, arith}
use Rattle.rv_call_tree.specs.declared.call_node.CallNode.{CallNode}
use Rattle.rv_call_tree.specs.declared.subtree.Subtree.{Subtree}
use Rattle.rv_call_tree.proofs.Descended.{child_fits, child_further, child_is, child_within, one_child, one_of_all}
use Rattle.rv_call_tree.proofs.subtree.subtree_at.Goals as goal

-- what is read where there is none
abbrev no_spot : CallNode
no_spot = record { depth = 0; function = 0; calls = 0; steps = 0 }

abbrev none : Subtree
none = record { function = 0; index = 0; end = 0; own = 0; inclusive = 0; calls = 0 }

pub bounds-later-nodes : goal.bounds-later-nodes
bounds-later-nodes c =
    child_within c.args.nodes.now c.args.index c.loop-end.end c.args.later.now c.loop-end.invariant.behind c.loop-end-test.true
    c.requires.later

pub overflow_add-inclusive : goal.overflow_add-inclusive
overflow_add-inclusive c =
    let nodes = c.args.nodes.now in
    let end = c.loop-end.end in
    let is = child_is nodes c.args.index end c.args.later.now none no_spot c.loop-end.invariant.behind c.loop-end-test.true
    c.requires.later in
    let fits = child_fits nodes c.args.index (get_or nodes c.args.index no_spot) end c.loop-end.inclusive no_spot
    (get_or c.args.later.now (length nodes - 1 - end) none) c.loop-end.invariant c.loop-end-test.true c.if-node-nodes.true is in
    let all = one_of_all nodes c.args.index no_spot c.requires.within in
    let few = c.requires.steps in
    omega (arith, fits, all, few)

pub loop-end-smaller : goal.loop-end-smaller
loop-end-smaller c =
    let nodes = c.args.nodes.now in
    let end = c.loop-end.end in
    let within = c.loop-end-test.true in
    let is = child_is nodes c.args.index end c.args.later.now none no_spot c.loop-end.invariant.behind within c.requires.later in
    let further = child_further end (get_or nodes end no_spot) (drop (end + 1) nodes)
    (get_or c.args.later.now (length nodes - 1 - end) none) is in
    omega (arith, further, within)

pub loop-end-preserved : goal.loop-end-preserved
loop-end-preserved c =
    let nodes = c.args.nodes.now in
    let end = c.loop-end.end in
    one_child nodes c.args.index (get_or nodes c.args.index no_spot) end c.loop-end.inclusive no_spot
    (get_or c.args.later.now (length nodes - 1 - end) none) c.loop-end.invariant c.loop-end-test.true c.if-node-nodes.true
    (child_is nodes c.args.index end c.args.later.now none no_spot c.loop-end.invariant.behind c.loop-end-test.true c.requires.later)
