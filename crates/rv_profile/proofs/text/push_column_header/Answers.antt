use Rattle.std.proofs.Common.{append_assoc}
use Rattle.rv_profile.specs.Text.{column_header}
use Rattle.rv_profile.proofs.text.push_column_header.Goals as goal

pub returns : goal.returns
unfolding column_header
returns c =
    simp append_assoc
    (simp (append_assoc, c.in_ok-push_right_aligned_word.ensures, c.in_ok-push_share_header-2.ensures, c.in_ok-push_share_header.ensures)
    at c.push_text.ensures)
