use Rattle.std.proofs.Common.{codes}
use Rattle.rv_text.specs.Printable.{printable_text}
use Rattle.rv_text.specs.Spans.{span_text}
use Rattle.rv_job_text.specs.ImageReasons.{signature_ends_text, named_symbol_text}
use Rattle.rv_text.proofs.Public.{told}
use Rattle.rv_job_text.proofs.Told.{ends_told}
use Rattle.rv_job_text.proofs.image_reason.push_signature_ends.Goals as goal

pub returns : goal.returns
unfolding signature_ends_text named_symbol_text
returns c =
    let begin = c.symbol_address_spans.result in
    let end = c.symbol_address_spans-2.result in
    rw (
      ← c.as_str.ensures,
      ← c.as_str-2.ensures,
      ← c.as_bytes-begin.ensures.value,
      ← c.as_bytes-end.ensures.value,
      ← c.symbol_address_spans.ensures,
      ← c.symbol_address_spans-2.ensures,
    )
    (told _ _ _ _ _ (ends_told (codes "the signature from ") (printable_text c.as_bytes-begin.result.now) (span_text begin.0)
    (span_text begin.1) (codes " to ") (printable_text c.as_bytes-end.result.now) (span_text end.0) (span_text end.1)
    (codes " is invalid: expected multiples of 4 in ascending order, at most 65536 words apart, in one region:")) c.push_spans.ensures)
