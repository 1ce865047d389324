use Rattle.rv_trace.proofs.Rows.{ending_is, steps_are}
use Rattle.rv_trace.proofs.law.rows_describe_the_run.Goals as goal

pub returns-clause-ending : goal.returns-clause-ending
returns-clause-ending c = ending_is

pub returns-clause-steps : goal.returns-clause-steps
returns-clause-steps c = steps_are
