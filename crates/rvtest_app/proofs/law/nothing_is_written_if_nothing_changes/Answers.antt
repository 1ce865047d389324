use Rattle.rvtest_app.proofs.Unwritten.{nothing_written}
use Rattle.rvtest_app.proofs.law.nothing_is_written_if_nothing_changes.Goals as goal

pub returns : goal.returns
returns c = nothing_written
