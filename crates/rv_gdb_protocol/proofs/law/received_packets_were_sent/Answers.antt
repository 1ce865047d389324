use Rattle.rv_gdb_protocol.proofs.Sent.{heard_was_sent}
use Rattle.rv_gdb_protocol.proofs.law.received_packets_were_sent.Goals as goal

pub returns : goal.returns
returns c = heard_was_sent
