-- Moves that may be broken off for more than one reason.
use Rattle.std.proofs.Common.{◌≡◌, ◌∙◌, ℕ, List, Bool, true, None, ap}
use Rattle.rv_gdb_protocol.specs.declared.request.Move.{Move}
use Rattle.rv_session.specs.Incoming.{IsRequestedMoveMade}
use Rattle.rv_session.specs.Moved.{IsMoved}
use Rattle.rv_session.specs.declared.reply.Reply.{Reply}
use Rattle.rv_session.specs.declared.session.Session.{Session}

moved_more : (end_text : List ℕ) (one other : Bool) (session next : Session) (requested : Move) (reply : Reply)
    → (one ≡ true → other ≡ true) → IsMoved end_text one session requested reply next → IsMoved end_text other session requested reply next
moved_more end_text one other session next requested reply more moved = record {
  step = moved.step;
  outcome = moved.outcome;
  is_result = moved.is_result;
  interrupted = λ broken. more (moved.interrupted broken);
  reply_is = moved.reply_is;
  next_is = moved.next_is;
}

-- what may be broken off for one reason may be broken off for a wider one
pub worked_more : (end_text : List ℕ) (one other : Bool) (session next : Session) (out : List ℕ) → (one ≡ true → other ≡ true)
    → IsRequestedMoveMade end_text one session out next → IsRequestedMoveMade end_text other session out next
worked_more end_text one other session next out more made = record {
  requested = made.requested;
  requested_is = made.requested_is;
  reply = made.reply;
  after_reply = made.after_reply;
  moved = moved_more end_text one other (record session { requested = None }) made.after_reply made.requested made.reply more made.moved;
  out_is = made.out_is;
  next_is = made.next_is;
}

-- no move is asked for once it is made
pub worked_unasked : (end_text : List ℕ) (may_break : Bool) (session next : Session) (out : List ℕ)
    → IsRequestedMoveMade end_text may_break session out next → next.requested ≡ None
worked_unasked end_text may_break session next out made =
    ap (λ (s : Session). s.requested) made.next_is ∙ ap (λ (s : Session). s.requested) made.moved.next_is
