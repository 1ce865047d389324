use Rattle.rv_session.specs.Incoming.{printed_packet}
use Rattle.rv_session.proofs.Looking.{packets_more}
use Rattle.rv_session.proofs.receiving.push_printed_packets.Goals as goal

pub loop-number-preserved : goal.loop-number-preserved
loop-number-preserved c =
    packets_more (printed_packet c.args.printed.now) c.loop-number.number c.args.out.now.items c.loop-number.out.items
    c.push_printed_packet.new.out.items c.loop-number.invariant c.in_ok-push_printed_packet.ensures
