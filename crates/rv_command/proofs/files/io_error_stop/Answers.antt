use Rattle.rv_command.proofs.Told.{told_stop}
use Rattle.rv_command.proofs.files.io_error_stop.Goals as goal

pub returns : goal.returns
returns c = told_stop _ _ _ _ c.system_failure.ensures (rw c.io_error_text.ensures at c.path_message.ensures)
