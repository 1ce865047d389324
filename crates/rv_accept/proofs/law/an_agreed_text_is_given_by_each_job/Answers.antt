use Rattle.rv_accept.proofs.Agreement.{agreed}
use Rattle.rv_accept.proofs.law.an_agreed_text_is_given_by_each_job.Goals as goal

pub returns : goal.returns
returns c = agreed
