use Rattle.rv_call_tree.proofs.Functions.{own_sums}
use Rattle.rv_call_tree.proofs.law.own_steps_sum_to_all.Goals as goal

pub returns : goal.returns
returns c = own_sums
