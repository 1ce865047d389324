use Rattle.rv_job_text.specs.UnmetLines.{reference_difference_text}
use Rattle.rv_job_text.proofs.signature_difference_text.push_reference_difference.Goals as goal

pub returns-in-Line : goal.returns-in-Line
unfolding reference_difference_text
returns-in-Line c = rw c.in-Line.is c.push_bad_reference_line.ensures

pub returns-in-Word : goal.returns-in-Word
unfolding reference_difference_text
returns-in-Word c = rw (c.in-Word.is, ← c.signature_word_digits.ensures, ← c.reference_digits_at.ensures) c.push_word_difference.ensures

pub returns-in-Count : goal.returns-in-Count
unfolding reference_difference_text
returns-in-Count c = rw c.in-Count.is c.push_count_difference.ensures

pub returns-in-Missing : goal.returns-in-Missing
unfolding reference_difference_text
returns-in-Missing c = rw c.in-Missing.is c.push_text.ensures
