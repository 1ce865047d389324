use Rattle.std.proofs.Common.{◌++◌, codes}
use Rattle.rv_text.specs.Printable.{printable_text}
use Rattle.rv_text.proofs.Public.{ended}
use Rattle.rv_job_text.specs.UnmetLines.{rows_difference_text, same_difference_text}
use Rattle.rv_job_text.proofs.unmet_line.push_same_difference.Goals as goal

pub returns : goal.returns
unfolding same_difference_text
returns c =
    let other = c.in-Some.other.now in
    let topic_told = rw c.as_str.ensures at c.in_ok-push_prefixed_name.ensures in
    rw c.in-Some.is
    (ended _ _ _ _ (codes "the same result as " ++ printable_text other.name)
    (rows_difference_text c.args.first c.args.row.now other c.args.difference) topic_told c.push_rows_difference.ensures)
