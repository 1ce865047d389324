use Rattle.std.proofs.Common.{append_assoc}
use Rattle.std.proofs.lemmas.List.{append-nil}
use Rattle.rv_choice.proofs.unknown_name.no_such_job_message.Goals as goal

pub returns : goal.returns
returns c =
    let said = simp (append-nil, c.as_bytes.ensures.value, c.as_bytes-2.ensures.value) at c.text_of_spans.ensures in
    simp append_assoc said
