use Rattle.rv_gdb_protocol.proofs.Hearing.{incoming_in-append}
use Rattle.rv_gdb_protocol.proofs.law.bytes_can_be_split.Goals as goal

pub returns : goal.returns
returns c = incoming_in-append
