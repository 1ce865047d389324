use Rattle.std.proofs.Common.{rules, true}
use Rattle.rv_session.specs.Incoming.{is_interrupted}
use Rattle.rv_gdb.proofs.Joining.{put_more}
use Rattle.rv_gdb.proofs.conversation.move_while_reading_into.Goals as goal

pub returns-clause-moved : goal.returns-clause-moved
returns-clause-moved g c =
    put_more (g.E.EndText.end_text c.args.context.now.end.now) _ (is_interrupted c.in_ok-chunk.chunk.items true) _ _ _ _
    (rw c.as_slice.ensures.value at c.in_ok-check_interrupt.ensures.raised) (search rules)
