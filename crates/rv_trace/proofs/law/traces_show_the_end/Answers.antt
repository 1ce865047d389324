use Rattle.rv_trace.proofs.ShownSteps.{ends_there, shows}
use Rattle.rv_trace.proofs.law.traces_show_the_end.Goals as goal

pub returns-clause-shown : goal.returns-clause-shown
returns-clause-shown c = shows

pub returns-clause-ended : goal.returns-clause-ended
returns-clause-ended c = ends_there
