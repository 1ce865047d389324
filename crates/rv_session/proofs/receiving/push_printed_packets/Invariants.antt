use Rattle.std.proofs.Common.{◌≡◌, ◌++◌}
use Rattle.std.specs.List.{flat_map, range_with_len}
use Rattle.rv_session.specs.Incoming.{printed_packet}
use Rattle.rv_session.proofs.receiving.push_printed_packets.Given as goal

abbrev pub invariant-loop-number : goal.invariant-loop-number
invariant-loop-number l = l.out.items ≡ l.fn.out.items ++ flat_map (printed_packet l.printed) (range_with_len 0 l.number)
