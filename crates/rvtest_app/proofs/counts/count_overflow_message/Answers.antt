use Rattle.std.proofs.Common.{append-nil, append_assoc}
use Rattle.rvtest_app.proofs.counts.count_overflow_message.Goals as goal

pub returns : goal.returns
returns c = simp append_assoc (simp (append-nil, c.as_bytes.ensures.value) at c.text_of_spans.ensures)
