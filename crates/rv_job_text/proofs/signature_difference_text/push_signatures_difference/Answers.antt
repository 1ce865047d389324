use Rattle.rv_job_text.specs.UnmetLines.{signatures_difference_text}
use Rattle.rv_job_text.proofs.signature_difference_text.push_signatures_difference.Goals as goal

pub returns-in-At : goal.returns-in-At
unfolding signatures_difference_text
returns-in-At c =
    rw (
      c.in-At.is,
      ← c.signature_words_or_empty-actual.ensures,
      ← c.signature_words_or_empty-expected.ensures,
      ← c.signature_word_digits.ensures,
      ← c.signature_word_digits-expected.ensures,
    )
    c.push_word_difference.ensures

pub returns-in-Lengths : goal.returns-in-Lengths
unfolding signatures_difference_text
returns-in-Lengths c =
    rw (c.in-Lengths.is, ← c.signature_words_or_empty-actual.ensures, ← c.signature_words_or_empty-expected.ensures) c.push_count_difference.ensures

pub returns-in-Missing : goal.returns-in-Missing
unfolding signatures_difference_text
returns-in-Missing c = rw (c.in-Missing.is, ← c.missing_signature_text.ensures) c.push_text.ensures
