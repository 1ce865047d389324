use Rattle.std.proofs.Common.{◌≡◌, ◌∙◌, ◌++◌, ℕ, List, Some, ap, rules, subst}
use Rattle.std.specs.Prelude.{Option}
use Rattle.rv_gdb_protocol.specs.declared.request.Move.{Move}
use Rattle.rv_session.specs.Incoming.{packets_of}
use Rattle.rv_session.specs.Moved.{IsMoved}
use Rattle.rv_session.proofs.session.Session.work.Goals as goal

pub returns-clause-move_made : goal.returns-clause-move_made
returns-clause-move_made g c =
    let session = c.args.self.now in
    let is : session.requested ≡ Some c.in-Some.requested = search rules in record {
      requested = c.in-Some.requested;
      requested_is = is;
      reply = c.in_ok-reply.reply;
      after_reply = c.make_requested_move.new.self;
      moved = subst (λ (requested : Option Move). IsMoved (g.E.EndText.end_text c.args.end.now)
          (g.I.Interrupt.was_raised c.make_requested_move.new.interrupt) (record session { requested = requested }) c.in-Some.requested c.in_ok-reply.reply
          c.make_requested_move.new.self)
          c.take.ensures.after c.in_ok-reply.ensures;
      out_is = c.in_ok-send.ensures.out ∙ ap (λ (front : List ℕ). front ++ packets_of c.in_ok-reply.reply) c.new-out.ensures.items;
      next_is = c.in_ok-send.ensures.next;
    }
