-- The text shown for a system error.
use Rattle.std.specs.Prelude.{ℕ, Bool, true, false, List, codes}
use Rattle.std.specs.declared.io.ErrorKind.{ErrorKind}
use Rattle.std.specs.declared.io.ErrorKind.TheVariants as kind

-- the message for a failed open, read or write: `out of memory` if memory ran out, `cannot be read` for an error that is not listed, and
-- otherwise the message of `strerror`
unfoldable pub io_error_text : ErrorKind → List ℕ
io_error_text kind.NotFound = codes "No such file or directory"
io_error_text kind.IsADirectory = codes "Is a directory"
io_error_text kind.PermissionDenied = codes "Permission denied"
io_error_text kind.NotADirectory = codes "Not a directory"
io_error_text kind.FilesystemLoop = codes "Too many levels of symbolic links"
io_error_text kind.ReadOnlyFilesystem = codes "Read-only file system"
io_error_text kind.StorageFull = codes "No space left on device"
io_error_text kind.QuotaExceeded = codes "Disk quota exceeded"
io_error_text kind.FileTooLarge = codes "File too large"
io_error_text kind.CrossesDevices = codes "Invalid cross-device link"
io_error_text kind.InvalidFilename = codes "File name too long"
io_error_text kind.InvalidInput = codes "Invalid argument"
io_error_text kind.StaleNetworkFileHandle = codes "Stale file handle"
io_error_text kind.ResourceBusy = codes "Device or resource busy"
io_error_text kind.WouldBlock = codes "Resource temporarily unavailable"
io_error_text kind.Interrupted = codes "Interrupted system call"
io_error_text kind.TimedOut = codes "Connection timed out"
io_error_text kind.Unsupported = codes "Operation not supported"
io_error_text kind.OutOfMemory = codes "out of memory"
io_error_text _ = codes "cannot be read"

-- the message for a failed write: `out of memory` if memory ran out, `write failed` for an error that is not listed, and otherwise the
-- message of `strerror`
unfoldable pub write_error_text : ErrorKind → List ℕ
write_error_text kind.StorageFull = codes "No space left on device"
write_error_text kind.QuotaExceeded = codes "Disk quota exceeded"
write_error_text kind.FileTooLarge = codes "File too large"
write_error_text kind.ReadOnlyFilesystem = codes "Read-only file system"
write_error_text kind.PermissionDenied = codes "Permission denied"
write_error_text kind.StaleNetworkFileHandle = codes "Stale file handle"
write_error_text kind.TimedOut = codes "Connection timed out"
write_error_text kind.OutOfMemory = codes "out of memory"
write_error_text _ = codes "write failed"

-- whether a write that failed with this error failed because the pipe has no readers left
abbrev pub is_broken_pipe : ErrorKind → Bool
is_broken_pipe kind.BrokenPipe = true
is_broken_pipe _ = false
