use Rattle.std.proofs.Common.{inl, inr}
use Rattle.rvtest_app.proofs.accepted_files.check_written.Goals as goal

pub returns : goal.returns
returns g c = inr (inl c.other_bytes_stop.ensures)
