use Rattle.std.proofs.Common.{rules}
use Rattle.rvfleet_app.proofs.flat_image.read_flat_image.Goals as goal

pub returns-clause-first : goal.returns-clause-first
returns-clause-first g c = search rules

pub returns-clause-left : goal.returns-clause-left
returns-clause-left g c = search rules
