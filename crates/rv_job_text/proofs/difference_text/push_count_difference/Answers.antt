use Rattle.std.proofs.Common.{codes}
use Rattle.std.specs.Fmt.{decimal}
use Rattle.rv_text.proofs.Public.{told}
use Rattle.rv_text.specs.Numbers.{count_text}
use Rattle.rv_job_text.specs.UnmetLines.{count_difference_text}
use Rattle.rv_job_text.proofs.Told.{words_told}
use Rattle.rv_job_text.proofs.difference_text.push_count_difference.Goals as goal

pub returns : goal.returns
unfolding count_difference_text
returns c =
    told _ _ _ _ _ (words_told (codes " in length: expected ") (count_text c.args.expected c.args.what.now) (codes ", found ")
    (decimal c.args.actual)) c.push_spans.ensures
