use Rattle.rv_job_text.specs.MetLines.{met_expectation_text}
use Rattle.rv_job_text.proofs.met_line.push_met_expectation.Goals as goal

pub returns-in-Exit : goal.returns-in-Exit
unfolding met_expectation_text
returns-in-Exit c = rw c.in-Exit.is c.push_expected_exit.ensures

pub returns-in-End : goal.returns-in-End
unfolding met_expectation_text
returns-in-End c = rw c.in-End.is c.push_expected_end.ensures

pub returns-in-Console : goal.returns-in-Console
unfolding met_expectation_text
returns-in-Console c = rw (c.in-Console.is, ← c.console_path.ensures) c.push_met_file.ensures

pub returns-in-Signature : goal.returns-in-Signature
unfolding met_expectation_text
returns-in-Signature c = rw (c.in-Signature.is, ← c.reference_path.ensures) c.push_met_file-in-Signature.ensures

pub returns-in-Same : goal.returns-in-Same
unfolding met_expectation_text
returns-in-Same c = rw c.in-Same.is c.push_same_as_job.ensures

pub returns-in-DefaultExit : goal.returns-in-DefaultExit
unfolding met_expectation_text
returns-in-DefaultExit c = rw c.in-DefaultExit.is c.push_text.ensures
