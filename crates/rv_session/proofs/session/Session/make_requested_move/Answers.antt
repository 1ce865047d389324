use Rattle.std.proofs.Common.{◌∙◌, ℕ, List, ap}
use Rattle.rv_gdb_protocol.specs.Stops.{stop_text}
use Rattle.rv_session.specs.Replies.{reply_with_end}
use Rattle.rv_session.specs.Moved.{console_before_stop}
use Rattle.rv_session.specs.Sessions.{current_state}
use Rattle.rv_session.proofs.Appending.{both_if}
use Rattle.rv_session.proofs.Gone.{can_tell, moved}
use Rattle.rv_session.proofs.session.Session.make_requested_move.Goals as goal

pub stop_of-requires : goal.stop_of-requires
stop_of-requires g c =
    can_tell c.args.self.now c.make_move.new.self c.args.requested c.in_ok-outcome.outcome c.make_move.ensures.only_moved c.in_ok-outcome.ensures.is_result

pub returns : goal.returns
returns g c = both_if _ _ _ c.stop_reply.result c.stop_reply.ensures.reply c.stop_reply.ensures.next
    (λ reply said stands. moved (g.E.EndText.end_text c.args.end.now) (g.I.Interrupt.was_raised c.make_move.new.interrupt) c.args.self.now
    c.make_move.new.self c.stop_reply.new.self c.args.requested reply
    c.in_ok-outcome.outcome c.in_ok-stop.stop c.make_move.ensures.only_moved c.in_ok-outcome.ensures.is_result c.in_ok-outcome.ensures.interrupted
    c.in_ok-stop.ensures
    (said ∙ ap (λ (text : List ℕ). reply_with_end (console_before_stop c.make_move.new.self c.args.requested (current_state c.make_move.new.self)) text
    (stop_text c.in_ok-stop.stop)) c.in_ok-text.ensures) stands)
