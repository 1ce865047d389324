-- What was received of the rows.
use Rattle.std.proofs.Common.{◌≡◌}
use Rattle.rv_stream.proofs.stream.stream_rows.Goals as goal
