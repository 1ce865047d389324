use Rattle.rv_session.proofs.Showing.{shown_once}
use Rattle.rv_session.proofs.law.console_is_sent_once.Goals as goal

pub returns : goal.returns
returns c = shown_once
