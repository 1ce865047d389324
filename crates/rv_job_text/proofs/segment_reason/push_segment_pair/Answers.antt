use Rattle.std.proofs.Common.{append_assoc, append-nil}
use Rattle.rv_job_text.specs.ImageReasons.{segment_pair_text}
use Rattle.rv_job_text.proofs.segment_reason.push_segment_pair.Goals as goal

pub returns : goal.returns
unfolding segment_pair_text
returns c =
    rw (
      ← c.load_address-from.ensures,
      ← c.load_address-other_from.ensures,
      ← c.last_address_span.ensures,
      ← c.last_address_span-2.ensures,
    )
    (simp (append_assoc, append-nil) (simp (append_assoc, append-nil) at c.push_spans.ensures))
