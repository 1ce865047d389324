-- Why a file could not be written.
use Rattle.std.specs.declared.io.ErrorKind.{ErrorKind}
use Rattle.std.specs.declared.io.ErrorKind.TheVariants as kind
use Rattle.rv_files.specs.declared.file_error.FileError.{FileError}
use Rattle.rv_files.specs.declared.file_error.FileError.TheVariants.{OutOfMemory, Failed}

-- why a file could not be written, given the system's error
abbrev pub file_error : ErrorKind → FileError
file_error kind.OutOfMemory = OutOfMemory
file_error reason = Failed reason
