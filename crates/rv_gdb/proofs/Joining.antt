-- Bytes that were heard one read behind the other.
use Rattle.std.proofs.Common.{◌≡◌, ◌≢◌, ◌∙◌, ◌++◌, ◌∷◌, ◌+◌, ◌<◌, [], ℕ, Bool, true, false, List, None, Some, ap, append-nil, arith, drop, get_or, inl, inr, length, refl, subst, sym, take}
use Rattle.std.specs.Prelude.{Option, ◌==◌, is_some}
use Rattle.std.proofs.KnownBytes.{Appends-nil, Appends-trans, Consumes-nil, Consumes-trans}
use Rattle.std.proofs.lemmas.Bool.{false≢true}
use Rattle.std.proofs.lemmas.List.{drop_all, drop_more, take_all, take_more}
use Rattle.std.specs.Io.KnownBytes.{Appends, Consumes, IsAtEnd}
use Rattle.rv_session.specs.Incoming.{IsReceived, is_interrupted, no_bytes}
use Rattle.rv_session.specs.Sessions.{IsOpenIfRequested}
use Rattle.rv_session.specs.declared.session.Session.{Session}
use Rattle.rv_session.proofs.Public.{fed_both, fed_byte, fed_move, worked_more, worked_unasked}
use Rattle.rv_gdb.specs.Chunks.{IsByteHandled, IsByteReplyWritten, IsChunkHandled, IsMoveReplyWritten}
use Rattle.rv_gdb.specs.Serving.{IsChunkRead, IsServed, IsReadWhileOpen}

-- ---- within a chunk

-- the bytes of a chunk up to one are heard, and all moves that were asked for are made, whatever comes behind the chunk
pub record IsHeardIn (end_text : List ℕ) (session : Session) (chunk : List ℕ) (index : ℕ) (old new : Option (List ℕ))
    (session_after : Session) : Type 0 where
  pub replies : List ℕ
  pub responded : (behind : Bool) → IsReceived end_text (is_interrupted (drop index chunk) behind) session (take index chunk) replies session_after
  pub no_pending_move : session_after.requested ≡ None
  pub written : Appends old new replies

pub heard_none : (end_text : List ℕ) (session : Session) (chunk : List ℕ) (out : Option (List ℕ)) → session.requested ≡ None
    → IsHeardIn end_text session chunk 0 out out session
heard_none end_text session chunk out none =
    record { replies = []; responded = λ behind. no_bytes session; no_pending_move = none; written = Appends-nil out }

-- what comes next is a byte of the chunk
comes : (chunk : List ℕ) (i d : ℕ) (behind : Bool) → i < length chunk
    → is_interrupted (drop i chunk) behind ≡ (get_or chunk i d == 3)
comes chunk i d behind within = ap (λ (bytes : List ℕ). is_interrupted bytes behind) (drop_more chunk i d within)

-- a byte more is heard, and if a move is asked for then, it is not made yet
pub record IsHeardAt (end_text : List ℕ) (session : Session) (chunk : List ℕ) (index : ℕ) (old new : Option (List ℕ))
    (session_after : Session) : Type 0 where
  pub replies : List ℕ
  pub responded : (behind : Bool) → IsReceived end_text behind session (take (index + 1) chunk) replies session_after
  pub written : Appends old new replies

pub heard_byte : (end_text : List ℕ) (session session_after next : Session) (chunk : List ℕ) (i d : ℕ) (a b c : Option (List ℕ))
    → i < length chunk → IsHeardIn end_text session chunk i a b session_after → IsByteReplyWritten session_after (get_or chunk i d) b c next
    → IsHeardAt end_text session chunk i a c next
heard_byte end_text session session_after next chunk i d a b c within first one = record {
  replies = first.replies ++ one.reply;
  responded = λ behind. subst (λ (bytes : List ℕ). IsReceived end_text behind session bytes (first.replies ++ one.reply) next)
      (sym (take_more chunk i d within))
      (fed_byte end_text behind session session_after next (take i chunk) first.replies one.reply (get_or chunk i d)
      (subst (λ (may : Bool). IsReceived end_text may session (take i chunk) first.replies session_after) (comes chunk i d true within)
      (first.responded true)) first.no_pending_move one.received);
  written = Appends-trans a b c first.replies one.reply first.written one.written;
}

-- no move is asked for
pub heard_on : (end_text : List ℕ) (session next : Session) (chunk : List ℕ) (i : ℕ) (a b : Option (List ℕ))
    → IsHeardAt end_text session chunk i a b next → next.requested ≡ None → IsHeardIn end_text session chunk (i + 1) a b next
heard_on end_text session next chunk i a b at none = record {
  replies = at.replies;
  responded = λ behind. at.responded (is_interrupted (drop (i + 1) chunk) behind);
  no_pending_move = none;
  written = at.written;
}

-- a move is made, behind which another byte waits
pub heard_move : (end_text : List ℕ) (session session_after next : Session) (chunk : List ℕ) (i d : ℕ) (a b c : Option (List ℕ))
    → i + 1 < length chunk → IsHeardAt end_text session chunk i a b session_after
    → IsMoveReplyWritten end_text (get_or chunk (i + 1) d == 3) session_after b c next → IsHeardIn end_text session chunk (i + 1) a c next
heard_move end_text session session_after next chunk i d a b c within at move = record {
  replies = at.replies ++ move.reply;
  responded = λ behind. subst (λ (may : Bool). IsReceived end_text may session (take (i + 1) chunk) (at.replies ++ move.reply) next)
      (sym (comes chunk (i + 1) d behind within))
      (fed_move end_text (get_or chunk (i + 1) d == 3) session session_after next (take (i + 1) chunk) at.replies move.reply
      (at.responded (get_or chunk (i + 1) d == 3)) move.move_made);
  no_pending_move = worked_unasked end_text (get_or chunk (i + 1) d == 3) session_after next move.reply move.move_made;
  written = Appends-trans a b c at.replies move.reply at.written move.written;
}

-- a byte was answered, and no move waits
pub heard_byte_on : (end_text : List ℕ) (session session_after next : Session) (chunk : List ℕ) (i : ℕ) (a b c : Option (List ℕ))
    → i < length chunk → IsHeardIn end_text session chunk i a b session_after → IsByteHandled end_text session_after chunk i false b c next
    → IsHeardIn end_text session chunk (i + 1) a c next
heard_byte_on end_text session session_after next chunk i a b c within first (inl (one, none)) =
    heard_on end_text session next chunk i a c (heard_byte end_text session session_after next chunk i 0 a b c within first one) none
heard_byte_on end_text session session_after next chunk i a b c within first (inr no_pending_move) =
    heard_move end_text session no_pending_move.session_between next chunk i 0 a no_pending_move.output_between c no_pending_move.within
    (heard_byte end_text session session_after no_pending_move.session_between chunk i 0 a b no_pending_move.output_between within first no_pending_move.replied) no_pending_move.moved

-- a session that a move is asked for in is not over
pub asked_going : (session : Session) → IsOpenIfRequested session → is_some session.requested ≡ true → session.is_over ≡ false
asked_going session (inl none) is = absurd (false≢true (sym (ap is_some none) ∙ is))
asked_going session (inr going) is = going

-- ---- the end of a chunk

-- the last byte of a chunk is heard
at_end : (end_text : List ℕ) (may : Bool) (session next : Session) (chunk replies : List ℕ) (i : ℕ) → i ≡ length chunk
    → IsReceived end_text may session (take i chunk) replies next → IsReceived end_text may session chunk replies next
at_end end_text may session next chunk replies i is responded =
    subst (λ (bytes : List ℕ). IsReceived end_text may session bytes replies next) (take_all i chunk (omega arith)) responded

-- all of it is heard, and nothing waits: behind it comes whatever comes
heard_whole : (end_text : List ℕ) (session next : Session) (chunk : List ℕ) (i : ℕ) (a b : Option (List ℕ)) (may : Bool)
    → i ≡ length chunk → (received : IsHeardIn end_text session chunk i a b next) → IsReceived end_text may session chunk received.replies next
heard_whole end_text session next chunk i a b may is received =
    at_end end_text may session next chunk received.replies i is
    (subst (λ (rest : List ℕ). IsReceived end_text (is_interrupted rest may) session (take i chunk) received.replies next)
    (drop_all i chunk (omega arith)) (received.responded may))

pub chunk_over : (end_text : List ℕ) (session next : Session) (chunk : List ℕ) (i : ℕ) (x y a b : Option (List ℕ)) → i ≡ length chunk
    → IsHeardIn end_text session chunk i a b next → y ≡ x → next.is_over ≡ true → IsChunkHandled end_text session chunk x y a b None next
chunk_over end_text session next chunk i x y a b is received same over = record {
  replies = received.replies;
  responded = heard_whole end_text session next chunk i a b false is received;
  no_pending_move = received.no_pending_move;
  written = received.written;
  read = (same, over);
}

pub chunk_read : (end_text : List ℕ) (session next : Session) (chunk bytes : List ℕ) (i : ℕ) (x y a b : Option (List ℕ))
    → i ≡ length chunk → IsHeardIn end_text session chunk i a b next → next.is_over ≡ false → IsChunkRead x y bytes
    → IsChunkHandled end_text session chunk x y a b (Some bytes) next
chunk_read end_text session next chunk bytes i x y a b is received going read =
    let responded = heard_whole end_text session next chunk i a b (is_interrupted bytes true) is received in record {
      replies = received.replies;
      responded = responded;
      no_pending_move = received.no_pending_move;
      written = received.written;
      read = (read, record { replies = received.replies; session_after = next; responded = responded; is_open = going });
    }

pub chunk_moved : (end_text : List ℕ) (session session_after next : Session) (chunk bytes : List ℕ) (i : ℕ) (x y a b c : Option (List ℕ))
    → i + 1 ≡ length chunk → IsHeardAt end_text session chunk i a b session_after → session_after.is_over ≡ false
    → IsMoveReplyWritten end_text (is_interrupted bytes true) session_after b c next → IsChunkRead x y bytes
    → IsChunkHandled end_text session chunk x y a c (Some bytes) next
chunk_moved end_text session session_after next chunk bytes i x y a b c is at going move read =
    let may = is_interrupted bytes true in
    let first = at_end end_text may session session_after chunk at.replies (i + 1) is (at.responded may) in record {
      replies = at.replies ++ move.reply;
      responded = fed_move end_text may session session_after next chunk at.replies move.reply first move.move_made;
      no_pending_move = worked_unasked end_text may session_after next move.reply move.move_made;
      written = Appends-trans a b c at.replies move.reply at.written move.written;
      read = (read, record { replies = at.replies; session_after = session_after; responded = first; is_open = going });
    }

-- a move that was broken off, as another thread told, was so for what this thread read
pub put_more : (end_text : List ℕ) (one other : Bool) (session next : Session) (a b : Option (List ℕ)) → (one ≡ true → other ≡ true)
    → IsMoveReplyWritten end_text one session a b next → IsMoveReplyWritten end_text other session a b next
put_more end_text one other session next a b more move = record {
  reply = move.reply;
  move_made = worked_more end_text one other session next move.reply more move.move_made;
  written = move.written;
}

-- ---- a chunk behind others

-- all up to a chunk was heard, and it is read, but not answered yet
pub record IsHeardUpTo (end_text : List ℕ) (session : Session) (before after old new : Option (List ℕ)) (chunk : List ℕ)
    (session_after : Session) : Type 0 where
  pub front : List ℕ
  pub replies : List ℕ
  pub read : Consumes before after (front ++ chunk)
  pub read_while_open : IsReadWhileOpen end_text session (front ++ chunk)
  pub ended : chunk ≡ [] → IsAtEnd after
  pub responded : IsReceived end_text (is_interrupted chunk true) session front replies session_after
  pub no_pending_move : session_after.requested ≡ None
  pub written : Appends old new replies

pub silent : (end_text : List ℕ) (session : Session) (input out : Option (List ℕ)) → session.requested ≡ None
    → IsServed end_text session input input out out session
silent end_text session input out none = record {
  received = [];
  replies = [];
  read = Consumes-nil input;
  read_while_open = inl refl;
  may_end = false;
  ended = λ never. absurd (false≢true never);
  responded = no_bytes session;
  no_pending_move = none;
  written = Appends-nil out;
}

-- the first chunk is read
pub first_read : (end_text : List ℕ) (session : Session) (chunk : List ℕ) (a b out : Option (List ℕ)) → session.requested ≡ None
    → session.is_over ≡ false → IsChunkRead a b chunk → IsHeardUpTo end_text session a b out out chunk session
first_read end_text session chunk a b out none going chunk_is = record {
  front = [];
  replies = [];
  read = chunk_is.read;
  read_while_open = inr (record {
    earlier = [];
    last = chunk;
    split = refl;
    at_most_max = chunk_is.at_most_max;
    replies = [];
    session_after = session;
    responded = no_bytes session;
    is_open = going;
  });
  ended = chunk_is.ended;
  responded = no_bytes session;
  no_pending_move = none;
  written = Appends-nil out;
}

-- where a chunk has a byte, it does not matter what comes behind it
same_next : (chunk : List ℕ) (one other : Bool) → chunk ≢ [] → is_interrupted chunk one ≡ is_interrupted chunk other
same_next [] one other some = absurd (some refl)
same_next (byte ∷ rest) one other some = refl

-- all up to the chunk, and the chunk
heard_both : (end_text : List ℕ) (may : Bool) (session between next : Session) (chunk more : List ℕ) (a b x y : Option (List ℕ))
    → chunk ≢ [] → (first : IsHeardUpTo end_text session a b x y chunk between) → IsReceived end_text may between chunk more next
    → IsReceived end_text may session (first.front ++ chunk) (first.replies ++ more) next
heard_both end_text may session between next chunk more a b x y some first second =
    fed_both end_text may chunk session between next first.front first.replies more
    (subst (λ (m : Bool). IsReceived end_text m session first.front first.replies between) (same_next chunk true may some) first.responded) second

pub heard_more : (end_text : List ℕ) (session between next : Session) (chunk bytes : List ℕ) (a b c x y z : Option (List ℕ)) → chunk ≢ []
    → IsHeardUpTo end_text session a b x y chunk between → IsChunkHandled end_text between chunk b c y z (Some bytes) next
    → IsHeardUpTo end_text session a c x z bytes next
heard_more end_text session between next chunk bytes a b c x y z some first second = record {
  front = first.front ++ chunk;
  replies = first.replies ++ second.replies;
  read = Consumes-trans a b c (first.front ++ chunk) bytes first.read second.read.0.read;
  read_while_open = inr (record {
    earlier = first.front ++ chunk;
    last = bytes;
    split = refl;
    at_most_max = second.read.0.at_most_max;
    replies = first.replies ++ second.read.1.replies;
    session_after = second.read.1.session_after;
    responded = heard_both end_text (is_interrupted bytes true) session between second.read.1.session_after chunk second.read.1.replies a b x y some
        first second.read.1.responded;
    is_open = second.read.1.is_open;
  });
  ended = second.read.0.ended;
  responded = heard_both end_text (is_interrupted bytes true) session between next chunk second.replies a b x y some first second.responded;
  no_pending_move = second.no_pending_move;
  written = Appends-trans x y z first.replies second.replies first.written second.written;
}

-- the session is over behind the chunk
pub heard_over : (end_text : List ℕ) (session between next : Session) (chunk : List ℕ) (a b c x y z : Option (List ℕ)) → chunk ≢ []
    → IsHeardUpTo end_text session a b x y chunk between → IsChunkHandled end_text between chunk b c y z None next
    → IsServed end_text session a c x z next × (next.is_over ≡ true)
heard_over end_text session between next chunk a b c x y z some first second = (
  record {
    received = first.front ++ chunk;
    replies = first.replies ++ second.replies;
    read = subst (λ (rest : Option (List ℕ)). Consumes a rest (first.front ++ chunk)) (sym second.read.0) first.read;
    read_while_open = first.read_while_open;
    may_end = false;
    ended = λ never. absurd (false≢true never);
    responded = heard_both end_text false session between next chunk second.replies a b x y some first second.responded;
    no_pending_move = second.no_pending_move;
    written = Appends-trans x y z first.replies second.replies first.written second.written;
  },
  second.read.1,
)

-- no byte is left
pub heard_all : (end_text : List ℕ) (session next : Session) (chunk : List ℕ) (a b x y : Option (List ℕ)) → chunk ≡ []
    → IsHeardUpTo end_text session a b x y chunk next → IsServed end_text session a b x y next × IsAtEnd b
heard_all end_text session next chunk a b x y none up_to = (
  record {
    received = up_to.front ++ chunk;
    replies = up_to.replies;
    read = up_to.read;
    read_while_open = up_to.read_while_open;
    may_end = is_interrupted chunk true;
    ended = λ may. up_to.ended none;
    responded = subst (λ (bytes : List ℕ). IsReceived end_text (is_interrupted chunk true) session bytes up_to.replies next)
        (sym (ap (λ (last : List ℕ). up_to.front ++ last) none ∙ append-nil up_to.front)) up_to.responded;
    no_pending_move = up_to.no_pending_move;
    written = up_to.written;
  },
  up_to.ended none,
)
