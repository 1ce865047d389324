use Rattle.std.proofs.Common.{rules}
use Rattle.rvfleet_app.specs.Lines.{IsLineWritten}
use Rattle.rvfleet_app.proofs.status.write_error_line.Goals as goal

pub returns : goal.returns
unfolding IsLineWritten
returns g c = search rules
