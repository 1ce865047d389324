use Rattle.rv_stacks.proofs.Flattened.{went_back}
use Rattle.rv_stacks.proofs.preorder.PreorderBuilder.visit_next.Goals as goal

pub returns-in-None : goal.returns-in-None
returns-in-None c = went_back c.args.remaining.now.items c.args.self.now c.return_to_parent.new.self (c.return_to_parent.ensures c.args.remaining.now.items c.requires)
