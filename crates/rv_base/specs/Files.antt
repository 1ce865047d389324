-- The contents of files, and how unreadable files are counted.
use Rattle.std.specs.Prelude.{ℕ, List, Option}
use Rattle.rv_base.specs.Counts.{one_more}
use Rattle.rv_base.specs.declared.store.ReadError.{ReadError}
use Rattle.rv_base.specs.declared.store.ReadError.TheVariants as error

-- the contents of files: the bytes of the file at each path, or `None` if there is no file
abbrev pub FileContents : Type 0
FileContents = List ℕ → Option (List ℕ)

-- the number of unreadable files after a read failed with this error, if it was `n` before: one more if the file was unreadable, and `n`
-- for any other error
abbrev pub faults_after : ReadError → ℕ → ℕ
faults_after error.Unreadable n = one_more n
faults_after error.TooLong n = n
faults_after error.OutOfMemory n = n
