use Rattle.std.proofs.Common.{rules}
use Rattle.rv_files.proofs.roots.resolved_path.Goals as goal

pub returns-in-Some : goal.returns-in-Some
returns-in-Some c = search rules
