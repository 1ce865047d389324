use Rattle.std.proofs.Common.{append-nil, append_assoc}
use Rattle.rv_command.proofs.invalid_line.job_list_message.Goals as goal

pub returns : goal.returns
returns c = simp append_assoc (simp (append-nil, c.as_bytes.ensures.value, c.kind_text.ensures) at c.text_of_spans.ensures)
