use Rattle.std.proofs.Common.{rules}
use Rattle.rv_fleet.proofs.worker.run_worker.Goals as goal

pub returns : goal.returns
returns g c = search rules
