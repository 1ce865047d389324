use Rattle.std.proofs.Common.{inl, inr, refl}
use Rattle.rv_command.proofs.files.read_file_up_to.Goals as goal

pub returns-in-Err-OutOfMemory-clause-stopped : goal.returns-in-Err-OutOfMemory-clause-stopped
returns-in-Err-OutOfMemory-clause-stopped g c = inl refl

pub returns-in-Err-Failed-clause-stopped : goal.returns-in-Err-Failed-clause-stopped
returns-in-Err-Failed-clause-stopped g c =
    let missing = rw c.in-Err-Failed.field-0-is at c.in-Err-Failed.ensures.missing in
    inr (missing (λ is. cc), (c.in-Err-Failed.reason, c.io_error_stop.ensures))
