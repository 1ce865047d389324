use Rattle.std.proofs.Common.{inr}
use Rattle.rv_command.proofs.Told.{told_stop}
use Rattle.rv_command.proofs.list.read_list_text.Goals as goal

pub returns-in-None-clause-stopped : goal.returns-in-None-clause-stopped
returns-in-None-clause-stopped g c =
    let long = rw c.in-None.is at c.in_ok-text.ensures.too_long in
    inr (long, told_stop _ _ _ _ c.system_failure.ensures c.path_message.ensures)
