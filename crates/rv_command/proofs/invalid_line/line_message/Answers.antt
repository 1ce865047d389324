use Rattle.std.proofs.Common.{append-nil, append_assoc}
use Rattle.rv_command.proofs.invalid_line.line_message.Goals as goal

pub returns : goal.returns
returns c =
    let said = simp (
      append-nil,
      c.as_bytes.ensures.value,
      c.numbered_line.ensures,
      c.line_before.ensures,
      c.expected_after.ensures,
      c.kind_noun.ensures,
    )
    at c.text_of_spans.ensures in
    simp append_assoc said
