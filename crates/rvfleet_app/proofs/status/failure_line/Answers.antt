use Rattle.std.proofs.Common.{rules}
use Rattle.rvfleet_app.proofs.status.failure_line.Goals as goal

pub returns-in-NoWorker : goal.returns-in-NoWorker
returns-in-NoWorker c = search rules
