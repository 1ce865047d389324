use Rattle.std.proofs.Common.{append_assoc}
use Rattle.rv_choice.proofs.chooser.nothing_left_message.Goals as goal

pub returns : goal.returns
returns c = simp append_assoc (rw (c.as_bytes.ensures.value, c.as_bytes-2.ensures.value) at c.text_of_spans.ensures)
