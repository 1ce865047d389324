use Rattle.rv_text.proofs.Public.{ended}
use Rattle.rv_job_text.specs.UnmetLines.{signature_difference_text}
use Rattle.rv_job_text.proofs.signature_difference_text.push_signature_difference.Goals as goal

pub returns : goal.returns
unfolding signature_difference_text
returns c =
    rw (c.in-Some.is, ← c.as_str-path.ensures, ← c.signature_words_or_empty-words.ensures, ← c.bytes_or_empty-reference.ensures)
    (ended _ _ _ _ _ _ c.in_ok-push_prefixed_name.ensures c.push_reference_difference.ensures)
