use Rattle.std.proofs.Common.{rules}
use Rattle.rv_expect.proofs.met_expectations.is_expectation_met.Goals as goal

pub returns-then-job_expects : goal.returns-then-job_expects
returns-then-job_expects c = search rules
