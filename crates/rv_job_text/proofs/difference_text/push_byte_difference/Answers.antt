use Rattle.std.proofs.Common.{codes}
use Rattle.std.specs.Fmt.{decimal}
use Rattle.rv_text.specs.Printable.{printable_value}
use Rattle.rv_text.proofs.Public.{told}
use Rattle.rv_job_text.specs.UnmetLines.{byte_difference_text}
use Rattle.rv_job_text.proofs.Told.{byte_told}
use Rattle.rv_job_text.proofs.difference_text.push_byte_difference.Goals as goal

pub returns : goal.returns
unfolding byte_difference_text
returns c =
    rw (← c.actual_and_expected_from.ensures.actual, ← c.actual_and_expected_from.ensures.expected)
    (told _ _ _ _ _ (byte_told (codes " at byte ") (decimal c.args.offset) (codes ": expected ") (codes "\"")
    (printable_value c.actual_and_expected_from.result.1.now) (codes ", found ") (printable_value c.actual_and_expected_from.result.0.now))
    c.push_spans.ensures)
