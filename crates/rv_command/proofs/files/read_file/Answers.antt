use Rattle.std.proofs.Common.{inl, refl}
use Rattle.rv_command.proofs.files.read_file.Goals as goal

pub returns-in-None-clause-stopped : goal.returns-in-None-clause-stopped
returns-in-None-clause-stopped g c = inl refl
