-- Replies, before they are made into packets.
use Rattle.std.specs.Prelude.{ℕ, List, [], Some, None, Bool, codes, if◌then◌else◌}
use Rattle.rv_gdb_protocol.specs.Replies.{refusal_text}
use Rattle.rv_gdb_protocol.specs.declared.request.Refusal.{Refusal}
use Rattle.rv_session.specs.declared.reply.Reply.{Reply}

-- a reply with only a body
abbrev pub with_body : List ℕ → Reply
with_body body = record { printed = []; end_text = []; body = Some body }

-- a reply with console output and a body
abbrev pub with_console : List ℕ → List ℕ → Reply
with_console printed body = record { printed = printed; end_text = []; body = Some body }

-- the empty reply, for which nothing is sent
abbrev pub empty_reply : Reply
empty_reply = record { printed = []; end_text = []; body = None }

-- a reply with console output, the text that describes the run's end, and a body
abbrev pub reply_with_end : List ℕ → List ℕ → List ℕ → Reply
reply_with_end printed end_text body = record { printed = printed; end_text = end_text; body = Some body }

-- the reply `OK`
abbrev pub ok_reply : Reply
ok_reply = with_body (codes "OK")

-- the reply that refuses a request for this reason
abbrev pub error_reply : Refusal → Reply
error_reply refusal = with_body (refusal_text refusal)

-- the reply `OK` if the request succeeds, and otherwise the refusal
abbrev pub ok_if : Bool → Refusal → Reply
ok_if succeeds refusal = if succeeds then ok_reply else error_reply refusal
