use Rattle.rv_job_text.specs.UnmetLines.{unmet_expectation_text}
use Rattle.rv_job_text.proofs.unmet_line.push_unmet_expectation.Goals as goal

pub returns-in-Exit : goal.returns-in-Exit
unfolding unmet_expectation_text
returns-in-Exit c = rw c.in-Exit.is c.push_expected_exit.ensures

pub returns-in-End : goal.returns-in-End
unfolding unmet_expectation_text
returns-in-End c = rw c.in-End.is c.push_expected_end.ensures

pub returns-in-Console : goal.returns-in-Console
unfolding unmet_expectation_text
returns-in-Console c = rw (c.in-Console.is, ← c.as_slice-actual.ensures) c.push_console_difference.ensures

pub returns-in-Signature : goal.returns-in-Signature
unfolding unmet_expectation_text
returns-in-Signature c = rw c.in-Signature.is c.push_signature_difference.ensures

pub returns-in-Same : goal.returns-in-Same
unfolding unmet_expectation_text
returns-in-Same c = rw c.in-Same.is c.push_same_difference.ensures

pub returns-in-DefaultExit : goal.returns-in-DefaultExit
unfolding unmet_expectation_text
returns-in-DefaultExit c = rw c.in-DefaultExit.is c.push_text.ensures
