-- What is appended to the bytes that go out.
use Rattle.std.proofs.Common.{◌≡◌, ◌∙◌, ◌++◌, [], ℕ, Bool, true, false, List, Some, ap, append-nil, append_assoc, refl, subst, sym}
use Rattle.std.specs.Prelude.{Option, Result, Ok, Err}
use Rattle.std.specs.Result.{IfOk, OnOk}
use Rattle.rv_gdb_protocol.specs.ReaderStates.{ReaderState, state_after_byte, incoming_at}
use Rattle.rv_gdb_protocol.specs.Packets.{request_of}
use Rattle.rv_gdb_protocol.specs.declared.frame.Incoming.{Incoming}
use Rattle.rv_session.specs.SessionReplies.{IsReply}
use Rattle.rv_session.specs.Incoming.{AppendsSome, IsByteReceived, IsRespondedTo, IsResponse, IsResponseUnless, IsPacketResponse, acknowledgement, packets_of, with_sent}
use Rattle.rv_session.specs.declared.reply.Reply.{Reply}
use Rattle.rv_session.specs.declared.session.Session.{Session}

-- nothing is appended
pub nothing_more : (old : List ℕ) (IsSuch : List ℕ → Type 0) → IsSuch [] → AppendsSome old old IsSuch
nothing_more old IsSuch such = record { out = []; new_is = sym (append-nil old); satisfied = such }

-- these bytes are
pub these_more : (old new out : List ℕ) (IsSuch : List ℕ → Type 0) → new ≡ old ++ out → IsSuch out → AppendsSome old new IsSuch
these_more old new out IsSuch is such = record { out = out; new_is = is; satisfied = such }

-- what is appended to nothing
pub to_nothing : (old new : List ℕ) (IsSuch : List ℕ → Type 0) → old ≡ [] → AppendsSome old new IsSuch → IsSuch new
to_nothing old new IsSuch none more =
    subst IsSuch (ap (λ (front : List ℕ). front ++ more.out) (sym none) ∙ sym more.new_is) more.satisfied

-- what is appended has another name
pub named_otherwise : (old new : List ℕ) (IsSuch IsOther : List ℕ → Type 0) → ((out : List ℕ) → IsSuch out → IsOther out)
    → AppendsSome old new IsSuch → AppendsSome old new IsOther
named_otherwise old new IsSuch IsOther other more =
    record { out = more.out; new_is = more.new_is; satisfied = other more.out more.satisfied }

-- what two clauses of a call say together
pub both_ok : {E : Type 0} (P Q R : Type 0) (result : Result (Unit {0}) E) → OnOk result P → OnOk result Q → (P → Q → R)
    → OnOk result R
both_ok P Q R (Ok done) first second together = together first second
both_ok P Q R (Err error) first second together = tt

pub both_if : {T E : Type 0} (P R : T → Type 0) (Q : Type 0) (result : Result T E) → IfOk result P → OnOk result Q
    → ((value : T) → P value → Q → R value) → IfOk result R
both_if P R Q (Ok value) first second together = together value first second
both_if P R Q (Err error) first second together = tt

-- ---- answers

pub not_over : (session next : Session) (received : Incoming) (out : List ℕ) → session.is_over ≡ false → IsResponse session received out next
    → IsRespondedTo session (Some received) out next
not_over session next received out is response =
    subst (λ (over : Bool). IsResponseUnless over session received out next) (sym is) response

pub over : (session : Session) (received : Incoming) → session.is_over ≡ true → IsRespondedTo session (Some received) [] session
over session received is = subst (λ (over : Bool). IsResponseUnless over session received [] session) (sym is) (refl, refl)

pub taken : (session behind next : Session) (body old middle last : List ℕ) (reply : Reply)
    → middle ≡ old ++ acknowledgement session → IsReply session (request_of body) reply behind
    → last ≡ middle ++ packets_of reply → next ≡ with_sent behind reply
    → AppendsSome old last (λ out. IsPacketResponse session body out next)
taken session behind next body old middle last reply acknowledged answered sent kept = record {
  out = acknowledgement session ++ packets_of reply;
  new_is = sent ∙ ap (λ (front : List ℕ). front ++ packets_of reply) acknowledged
      ∙ append_assoc old (acknowledgement session) (packets_of reply);
  satisfied = record { reply = reply; after_reply = behind; is_reply = answered; out_is = refl; next_is = kept };
}

-- ---- bytes

-- a byte is heard by the reader first
pub byte_heard : (session next : Session) (reader : ReaderState) (received : Option Incoming) (byte : ℕ) (out : List ℕ)
    → reader ≡ state_after_byte session.reader byte → received ≡ incoming_at session.reader byte
    → IsRespondedTo (record session { reader = reader }) received out next → IsByteReceived session byte out next
byte_heard session next reader received byte out is same response =
    subst (λ (f : ReaderState). IsRespondedTo (record session { reader = f }) (incoming_at session.reader byte) out next) is
    (subst (λ (h : Option Incoming). IsRespondedTo (record session { reader = reader }) h out next) same response)
