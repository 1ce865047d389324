use Rattle.std.proofs.Common.{arith}
use Rattle.rv_stacks.proofs.Flattened.{moved}
use Rattle.rv_stacks.proofs.preorder.PreorderBuilder.enter_child.Goals as goal

pub returns : goal.returns
returns c = moved c.args.remaining.now.items c.args.self.now _ c.args.number c.index-node.result.now c.len.result c.requires.is_preorder
    c.requires.next c.index-node.ensures (let long = c.len.ensures in omega (arith, long)) c.in_ok-push-2.ensures.items c.in_ok-push-3.ensures.items
    c.in_ok-push.ensures.items
