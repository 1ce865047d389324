use Rattle.rv_command.proofs.Told.{told_stop}
use Rattle.rv_command.proofs.files.file_error_stop.Goals as goal

pub returns-in-OutOfMemory : goal.returns-in-OutOfMemory
returns-in-OutOfMemory c = rw c.in-OutOfMemory.is

pub returns-in-SameFile : goal.returns-in-SameFile
returns-in-SameFile c = rw c.in-SameFile.is (told_stop _ _ _ _ c.rejection.ensures c.path_message.ensures)

pub returns-in-Failed : goal.returns-in-Failed
returns-in-Failed c = rw c.in-Failed.is c.io_error_stop.ensures
