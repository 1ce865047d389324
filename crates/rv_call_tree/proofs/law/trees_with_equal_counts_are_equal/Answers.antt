use Rattle.rv_call_tree.proofs.Unique.{one_tree_of_counts}
use Rattle.rv_call_tree.proofs.law.trees_with_equal_counts_are_equal.Goals as goal

pub returns : goal.returns
returns c = one_tree_of_counts
