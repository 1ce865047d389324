use Rattle.rv_gdb_protocol.proofs.Reading.{sent_alone}
use Rattle.rv_gdb_protocol.proofs.law.packets_are_received.Goals as goal

pub returns : goal.returns
returns c = sent_alone
