use Rattle.rv_expect.proofs.OfPlans.{passes_in_a_plan, tells_of_a_plan}
use Rattle.rv_expect.proofs.law.unmet_of_a_plan_is_what_does_not_hold.Goals as goal

pub returns-clause-reported : goal.returns-clause-reported
returns-clause-reported c = tells_of_a_plan

pub returns-clause-passes : goal.returns-clause-passes
returns-clause-passes c = passes_in_a_plan
