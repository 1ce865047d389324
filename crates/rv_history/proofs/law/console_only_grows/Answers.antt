use Rattle.rv_history.proofs.Printing.{printed_stays}
use Rattle.rv_history.proofs.law.console_only_grows.Goals as goal

pub returns : goal.returns
returns c = printed_stays
