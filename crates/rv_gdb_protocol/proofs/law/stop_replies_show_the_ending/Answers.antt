use Rattle.rv_gdb_protocol.proofs.Endings.{one_reply_one_ending}
use Rattle.rv_gdb_protocol.proofs.law.stop_replies_show_the_ending.Goals as goal

pub returns : goal.returns
returns c = one_reply_one_ending
