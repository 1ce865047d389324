use Rattle.std.proofs.Common.{append_assoc, append-nil}
use Rattle.rv_diff.specs.Diff.{change_counts_text, differing_text}
use Rattle.rv_diff.proofs.diff.push_counts.Goals as goal

pub returns : goal.returns
unfolding change_counts_text differing_text
returns c =
    let told = rw c.differ_text.ensures at c.push_spans.ensures in
    simp append_assoc (simp append-nil at told)
