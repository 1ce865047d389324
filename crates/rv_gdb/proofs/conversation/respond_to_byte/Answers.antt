use Rattle.std.proofs.Common.{inr, rules}
use Rattle.rv_gdb.proofs.conversation.respond_to_byte.Goals as goal

pub returns-clause-handled : goal.returns-clause-handled
returns-clause-handled g c = inr (record {
  session_between = c.write_byte_reply.new.session;
  output_between = g.O.Sink.accepted c.write_byte_reply.new.out;
  within = search rules;
  replied = c.in_ok-write_byte_reply.ensures.written;
  moved = c.in_ok-write_move_reply_before.ensures.moved;
})
