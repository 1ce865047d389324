use Rattle.rv_stacks.proofs.Growing.{arrived}
use Rattle.rv_stacks.proofs.walk.Walk.enter.Goals as goal

pub returns : goal.returns
returns c = arrived c.args.self.now c.return_to.new.self _ c.last_number-parent.result c.args.depth c.args.function
    c.in_ok-number.number c.number_of_child.new.nodes.items c.return_to.ensures c.last_number-parent.ensures.path
    c.in_ok-number.ensures c.count_call.ensures c.in_ok-push.ensures.items c.in_ok-push-2.ensures.items
