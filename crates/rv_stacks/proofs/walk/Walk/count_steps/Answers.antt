use Rattle.rv_stacks.proofs.Growing.{some_number}
use Rattle.rv_stacks.proofs.walk.Walk.count_steps.Goals as goal

pub count_steps-requires-clause-positive : goal.count_steps-requires-clause-positive
count_steps-requires-clause-positive c = some_number c.args.self.now c.last_number-number.result c.last_number-number.ensures.path c.requires.path_not_empty
