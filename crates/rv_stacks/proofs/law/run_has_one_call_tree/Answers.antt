-- Both have the counts of the run.
use Rattle.std.proofs.Common.{◌∙◌, sym}
use Rattle.rv_stacks.proofs.law.run_has_one_call_tree.Goals as goal

pub returns : goal.returns
returns c = λ function n s a b h k. c.trees_with_equal_counts_are_equal.ensures a b h.tree k.tree h.some k.some
    (λ path. h.calls path ∙ sym (k.calls path)) (λ path. h.steps path ∙ sym (k.steps path))
