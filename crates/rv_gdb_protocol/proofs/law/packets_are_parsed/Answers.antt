use Rattle.rv_gdb_protocol.proofs.Rows.{is_read}
use Rattle.rv_gdb_protocol.proofs.law.packets_are_parsed.Goals as goal

pub returns : goal.returns
returns c = is_read
