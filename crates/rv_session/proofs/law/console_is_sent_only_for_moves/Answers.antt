use Rattle.rv_session.proofs.Showing.{shown_still}
use Rattle.rv_session.proofs.law.console_is_sent_only_for_moves.Goals as goal

pub returns : goal.returns
returns c = shown_still
