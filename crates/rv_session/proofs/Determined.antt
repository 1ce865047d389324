-- What goes out, and the session behind it, are determined by the session and by the bytes that come.
use Rattle.std.proofs.Common.{◌≡◌, ◌∙◌, ◌++◌, ◌∷◌, ◌+◌, ◌≤◌, ◌^◌, ◌&&◌, [], ℕ, List, Bool, true, false, Some, None, ap, refl, subst, sym}
use Rattle.std.specs.Prelude.{Option, Result, Ok, Err, ◌==◌}
use Rattle.std.proofs.lemmas.Bool.{and_parts, both_ways, eqb-true, ne_eqb}
use Rattle.std.proofs.Math.Bridge.{le_prop}
use Rattle.rv_history.specs.Moves.{IsInterrupted, IsUninterrupted}
use Rattle.rv_history.specs.declared.counts.Count.{Count}
use Rattle.rv_history.specs.declared.counts.Count.TheVariants as count
use Rattle.rv_history.specs.declared.outcome.MoveResult.{MoveResult}
use Rattle.rv_history.specs.declared.bounds.Bounds.TheVariants as bounds
use Rattle.rv_history.specs.declared.stops.Stops.{Stops}
use Rattle.rv_history.specs.declared.stops.Watch.{Watch}
use Rattle.rv_history.proofs.Public.{one_first_with, one_next_step, one_next_stop, one_step_before, one_stop_before}
use Rattle.rv_history.specs.State.{State}
use Rattle.rv_history.specs.Bus.{BusContents}
use Rattle.rv_gdb_protocol.specs.ReaderStates.{state_after_byte, incoming_at}
use Rattle.rv_gdb_protocol.specs.Packets.{request_of}
use Rattle.rv_gdb_protocol.specs.Stops.{stop_text}
use Rattle.rv_gdb_protocol.specs.declared.frame.Incoming.{Incoming}
use Rattle.rv_gdb_protocol.specs.declared.frame.Incoming.TheVariants as received
use Rattle.rv_gdb_protocol.specs.declared.request.Move.{Move}
use Rattle.rv_gdb_protocol.specs.declared.request.Move.TheVariants as move
use Rattle.rv_gdb_protocol.specs.declared.request.Range.{Range}
use Rattle.rv_gdb_protocol.specs.declared.request.Refusal.{Refusal}
use Rattle.rv_gdb_protocol.specs.declared.request.Refusal.TheVariants as refusal
use Rattle.rv_gdb_protocol.specs.declared.request.Register.{Register}
use Rattle.rv_gdb_protocol.specs.declared.request.Register.TheVariants as reg
use Rattle.rv_gdb_protocol.specs.declared.request.Request.{Request}
use Rattle.rv_gdb_protocol.specs.declared.request.Request.TheVariants as ask
use Rattle.rv_gdb_protocol.specs.declared.request.Stoppoint.{Stoppoint}
use Rattle.rv_gdb_protocol.specs.declared.request.Stoppoint.TheVariants as trap
use Rattle.rv_session.specs.SessionReplies.{IsReply, IsSetReply, IsSeekHandled, IsSeekResult, IsStoppointSet, IsRegisterWriteHandled}
use Rattle.rv_session.specs.Incoming.{HasNoInterrupt, IsByteReceived, IsReceived, IsCheckedPacketResponse, IsRespondedTo, IsResponse, IsResponseUnless, IsPacketResponse, IsRequestedMoveMade, acknowledgement, byte_first, is_interrupted, is_wrong_checksum, move_first, no_bytes, packets_of, with_sent}
use Rattle.rv_session.specs.Moved.{IsMoveResult, IsMoved, end_text_at, console_before_stop, console_sent_after, stop_of}
use Rattle.rv_session.specs.Replies.{ok_if, reply_with_end}
use Rattle.rv_session.specs.Sessions.{at_step, state_at}
use Rattle.rv_session.specs.Stoppoints.{IsTableAdded, IsAddedUnless, IsStoppointAdded, is_for_range, is_set, stoppoint_refusal, watches_of, with_watches}
use Rattle.rv_session.specs.declared.reply.Reply.{Reply}
use Rattle.rv_session.specs.declared.session.Session.{Session}

-- ---- moves

gone_one : (requested : Move) (stops : Stops) (budget from p q : ℕ) (start : State) (one other : MoveResult)
    → IsMoveResult requested stops budget start from p one → IsMoveResult requested stops budget start from q other → IsUninterrupted one → IsUninterrupted other
    → (p ≡ q) × (one ≡ other)
gone_one move.Continue stops budget from p q start one other first second whole again =
    one_next_stop stops bounds.All budget from p q start one other first second whole again
gone_one move.Step stops budget from p q start one other first second whole again =
    one_next_step stops budget from p q start one other first second
gone_one (move.StepWithin low high) stops budget from p q start one other first second whole again =
    one_next_stop stops (bounds.Within low high) budget from p q start one other first second whole again
gone_one move.ContinueBack stops budget from p q start one other first second whole again =
    one_stop_before stops budget from p q start one other first second whole again
gone_one move.StepBack stops budget from p q start one other first second whole again =
    one_step_before stops budget from p q start one other first second

unbroken : (may_break : Bool) (outcome : MoveResult) → may_break ≡ false → (IsInterrupted outcome → may_break ≡ true) → IsUninterrupted outcome
unbroken may_break outcome never broken is = both_ways may_break never (broken is)

moved_one : (end_text : List ℕ) (may_break : Bool) (session one other : Session) (requested : Move) (reply again : Reply) → may_break ≡ false
    → IsMoved end_text may_break session requested reply one → IsMoved end_text may_break session requested again other → (reply ≡ again) × (one ≡ other)
moved_one end_text may_break session one other requested reply again never first second =
    let same = gone_one requested session.stops session.history.budget session.history.step first.step second.step
    session.history.start first.outcome second.outcome first.is_result second.is_result
    (unbroken may_break first.outcome never first.interrupted) (unbroken may_break second.outcome never second.interrupted) in
    let said : ℕ → MoveResult → Reply = λ step outcome.
    reply_with_end (console_before_stop session requested (state_at session step)) (end_text_at end_text outcome)
    (stop_text (stop_of session requested step outcome)) in
    let stands : ℕ → MoveResult → Session = λ step outcome. record session {
      history = record session.history { step = step };
      console_sent = console_sent_after session requested (state_at session step);
      last_stop = stop_of session requested step outcome;
    } in (
      first.reply_is ∙ ap (λ (k : ℕ). said k first.outcome) same.0 ∙ ap (said second.step) same.1 ∙ sym second.reply_is,
      first.next_is ∙ ap (λ (k : ℕ). stands k first.outcome) same.0 ∙ ap (stands second.step) same.1 ∙ sym second.next_is,
    )

-- ---- seeks

sought_as_one : (session one other : Session) (count : Count) (value : ℕ) (grants again : Bool)
    → IsSeekResult grants session count value one → IsSeekResult again session count value other
    → (grants ≡ again) × (one.history.step ≡ other.history.step)
sought_as_one session one other count value true true first second = (
  refl,
  one_first_with count value session.history.budget
      one.history.step other.history.step session.history.start first second,
)
sought_as_one session one other count value true false first second =
    absurd (second.0 one.history.step first.within first.value_is)
sought_as_one session one other count value false true first second =
    absurd (first.0 other.history.step second.within second.value_is)
sought_as_one session one other count value false false first second =
    (refl, ap (λ (s : Session). s.history.step) (first.1 ∙ sym second.1))

sought_one : (session one other : Session) (count : Count) (value : ℕ) (reply again : Reply)
    → IsSeekHandled session count value reply one → IsSeekHandled session count value again other → (reply ≡ again) × (one ≡ other)
sought_one session one other count value reply again first second =
    let same = sought_as_one session one other count value first.succeeds second.succeeds first.seek_result second.seek_result in (
      first.reply_is ∙ ap (λ (is : Bool). ok_if is refusal.NotReached) same.0 ∙ sym second.reply_is,
      first.run ∙ ap (at_step session) same.1 ∙ sym second.run,
    )

written_one : (session one other : Session) (register : Register) (value : ℕ) (reply again : Reply)
    → IsRegisterWriteHandled session register value reply one → IsRegisterWriteHandled session register value again other → (reply ≡ again) × (one ≡ other)
written_one session one other (reg.Hart number) value reply again first second =
    (first.0 ∙ sym second.0, first.1 ∙ sym second.1)
written_one session one other reg.Steps value reply again first second = (first.0 ∙ sym second.0, first.1 ∙ sym second.1)
written_one session one other reg.Printed value reply again first second =
    sought_one session one other count.Printed value reply again first second
written_one session one other reg.Taken value reply again first second =
    sought_one session one other count.Taken value reply again first second

-- ---- traps

-- watches of the same bytes are the same
watch_made : (address count : ℕ) → address + count ≤ 2 ^ 32 → Watch
watch_made address count within = record { address = address; count = count; within = within }

watch_with : (address count : ℕ) (one other : address + count ≤ 2 ^ 32) → watch_made address count one ≡ watch_made address count other
unfolding watch_made
watch_with address count one other =
    ap (λ (within : address + count ≤ 2 ^ 32). watch_made address count within) (le_prop one other)

watch_of : (a : Watch) (address count : ℕ) (within : address + count ≤ 2 ^ 32) → a.address ≡ address → a.count ≡ count
    → a ≡ watch_made address count within
unfolding watch_made
watch_of a address count within at long =
    subst (λ (n : ℕ). (w : n + count ≤ 2 ^ 32) → a ≡ watch_made n count w) at
    (subst (λ (m : ℕ). (w : a.address + m ≤ 2 ^ 32) → a ≡ watch_made a.address m w) long
    (λ w. watch_with a.address a.count a.within w)) within

watch_one : (range : Range) (one other : Watch) → is_for_range range one ≡ true → is_for_range range other ≡ true → one ≡ other
unfolding watch_made
watch_one range one other first second =
    let current_state = and_parts (one.address == range.address) (one.count == range.count) first in
    let there = and_parts (other.address == range.address) (other.count == range.count) second in
    watch_of one other.address other.count other.within
    (eqb-true one.address range.address current_state.0 ∙ sym (eqb-true other.address range.address there.0))
    (eqb-true one.count range.count current_state.1 ∙ sym (eqb-true other.count range.count there.1))

added_one : (stops one other : Stops) (stoppoint : Stoppoint) → IsTableAdded stops stoppoint one → IsTableAdded stops stoppoint other → one ≡ other
added_one stops one other (trap.Break address) first second = first ∙ sym second
added_one stops one other (trap.Watch kind range) first second =
    let same : first.watches ≡ second.watches = first.added.next_is
    ∙ ap (λ (watch : Watch). watches_of stops kind ++ watch ∷ [])
    (watch_one range first.added.watch second.added.watch first.added.on second.added.on)
    ∙ sym second.added.next_is in
    first.next_is ∙ ap (with_watches stops kind) same ∙ sym second.next_is

added_unless_one : (stops one other : Stops) (stoppoint : Stoppoint) (is : Bool) → IsAddedUnless is stops stoppoint one
    → IsAddedUnless is stops stoppoint other → one ≡ other
added_unless_one stops one other stoppoint true first second = first ∙ sym second
added_unless_one stops one other stoppoint false first second = added_one stops one other stoppoint first second

trapped_one : (stops : Stops) (bus : BusContents) (stoppoint : Stoppoint) (one other : Result Stops Refusal) → IsStoppointAdded stops bus stoppoint one
    → IsStoppointAdded stops bus stoppoint other → one ≡ other
trapped_one stops bus stoppoint (Ok one) (Ok other) first second =
    ap (λ (s : Stops). Ok s) (added_unless_one stops one other stoppoint (is_set stops stoppoint) first.1 second.1)
trapped_one stops bus stoppoint (Ok one) (Err other) first second =
    let none : stoppoint_refusal stops bus stoppoint ≡ None = first.0 in absurd (cc (none, second))
trapped_one stops bus stoppoint (Err one) (Ok other) first second =
    let none : stoppoint_refusal stops bus stoppoint ≡ None = second.0 in absurd (cc (none, first))
trapped_one stops bus stoppoint (Err one) (Err other) first second = cc (first, second)

set_one : (session one other : Session) (outcome : Result Stops Refusal) (reply again : Reply) → IsSetReply session outcome reply one
    → IsSetReply session outcome again other → (reply ≡ again) × (one ≡ other)
set_one session one other (Ok stops) reply again first second = (first.0 ∙ sym second.0, first.1 ∙ sym second.1)
set_one session one other (Err refusal) reply again first second = (first.0 ∙ sym second.0, first.1 ∙ sym second.1)

trap_one : (session one other : Session) (stoppoint : Stoppoint) (reply again : Reply) → IsStoppointSet session stoppoint reply one
    → IsStoppointSet session stoppoint again other → (reply ≡ again) × (one ≡ other)
trap_one session one other stoppoint reply again first second =
    let same = trapped_one session.stops (state_at session session.history.step).bus stoppoint first.outcome second.outcome
    first.added_is second.added_is in
    set_one session one other second.outcome reply again
    (subst (λ (o : Result Stops Refusal). IsSetReply session o reply one) same first.set_reply) second.set_reply

-- ---- answers

answered_one : (session one other : Session) (request : Request) (reply again : Reply) → IsReply session request reply one
    → IsReply session request again other → (reply ≡ again) × (one ≡ other)
answered_one session one other (ask.WriteRegister register value) reply again first second =
    written_one session one other register value reply again first second
answered_one session one other (ask.Set stoppoint) reply again first second =
    trap_one session one other stoppoint reply again first second
answered_one session one other request reply again first second = (first.0 ∙ sym second.0, first.1 ∙ sym second.1)

taken_one : (session one other : Session) (body out more : List ℕ) → IsPacketResponse session body out one
    → IsPacketResponse session body more other → (out ≡ more) × (one ≡ other)
taken_one session one other body out more first second =
    let same = answered_one session first.after_reply second.after_reply (request_of body) first.reply second.reply
    first.is_reply second.is_reply in (
      first.out_is ∙ ap (λ (reply : Reply). acknowledgement session ++ packets_of reply) same.0 ∙ sym second.out_is,
      first.next_is ∙ ap (with_sent first.after_reply) same.0 ∙ ap (λ (s : Session). with_sent s second.reply) same.1
          ∙ sym second.next_is,
    )

judged_one : (session one other : Session) (again : Bool) (body out more : List ℕ) → IsCheckedPacketResponse session again body out one
    → IsCheckedPacketResponse session again body more other → (out ≡ more) × (one ≡ other)
judged_one session one other true body out more first second = (first.0 ∙ sym second.0, first.1 ∙ sym second.1)
judged_one session one other false body out more first second = taken_one session one other body out more first second

response_one : (session one other : Session) (received : Incoming) (out more : List ℕ) → IsResponse session received out one
    → IsResponse session received more other → (out ≡ more) × (one ≡ other)
response_one session one other (received.Packet body sum) out more first second =
    judged_one session one other (session.acknowledges && is_wrong_checksum sum) body out more first second
response_one session one other received.Interrupt out more first second = (first.0 ∙ sym second.0, first.1 ∙ sym second.1)
response_one session one other received.Acknowledged out more first second = (first.0 ∙ sym second.0, first.1 ∙ sym second.1)
response_one session one other received.ResendRequested out more first second = (first.0 ∙ sym second.0, first.1 ∙ sym second.1)
response_one session one other received.TooLong out more first second = (first.0 ∙ sym second.0, first.1 ∙ sym second.1)

unless_one : (session one other : Session) (over : Bool) (received : Incoming) (out more : List ℕ)
    → IsResponseUnless over session received out one → IsResponseUnless over session received more other → (out ≡ more) × (one ≡ other)
unless_one session one other true received out more first second = (first.0 ∙ sym second.0, first.1 ∙ sym second.1)
unless_one session one other false received out more first second = response_one session one other received out more first second

responded_one : (session one other : Session) (received : Option Incoming) (out more : List ℕ) → IsRespondedTo session received out one
    → IsRespondedTo session received more other → (out ≡ more) × (one ≡ other)
responded_one session one other None out more first second = (first.0 ∙ sym second.0, first.1 ∙ sym second.1)
responded_one session one other (Some received) out more first second =
    unless_one session one other session.is_over received out more first second

byte_one : (session one other : Session) (byte : ℕ) (out more : List ℕ) → IsByteReceived session byte out one
    → IsByteReceived session byte more other → (out ≡ more) × (one ≡ other)
byte_one session one other byte out more first second =
    responded_one (record session { reader = state_after_byte session.reader byte }) one other (incoming_at session.reader byte) out more
    first second

-- ---- bytes and moves

worked_one : (end_text : List ℕ) (may_break : Bool) (session one other : Session) (out more : List ℕ) → may_break ≡ false
    → IsRequestedMoveMade end_text may_break session out one → IsRequestedMoveMade end_text may_break session more other → (out ≡ more) × (one ≡ other)
worked_one end_text may_break session one other out more never first second =
    let requested : first.requested ≡ second.requested = some_one first.requested second.requested (sym first.requested_is ∙ second.requested_is) in
    let same = moved_one end_text may_break (record session { requested = None }) first.after_reply second.after_reply second.requested first.reply
    second.reply never
    (subst (λ (a : Move). IsMoved end_text may_break (record session { requested = None }) a first.reply first.after_reply) requested first.moved)
    second.moved in (
      first.out_is ∙ ap packets_of same.0 ∙ sym second.out_is,
      first.next_is ∙ ap (with_sent first.after_reply) same.0 ∙ ap (λ (s : Session). with_sent s second.reply) same.1
          ∙ sym second.next_is,
    )
  where
    some_one : (a b : Move) → Some a ≡ Some b → a ≡ b
    some_one a b is = cc is

not_asked : (end_text : List ℕ) (may_break : Bool) (session next : Session) (out : List ℕ) → session.requested ≡ None
    → IsRequestedMoveMade end_text may_break session out next → ⊥
not_asked end_text may_break session next out going made = absurd (cc (going, made.requested_is))

none_next : (bytes : List ℕ) → HasNoInterrupt bytes → is_interrupted bytes false ≡ false
none_next [] none = refl
none_next (byte ∷ rest) none = ne_eqb byte 3 none.0

pub fed_one : (end_text : List ℕ) (session one other : Session) (bytes out more : List ℕ) → HasNoInterrupt bytes
    → IsReceived end_text false session bytes out one → one.requested ≡ None → IsReceived end_text false session bytes more other
    → other.requested ≡ None → (out ≡ more) × (one ≡ other)
fed_one end_text session one other bytes out more none (no_bytes same) going (no_bytes again) opened = (refl, refl)
fed_one end_text session one other bytes out more none (no_bytes same) going (move_first again middle end rest said console_sent made further) opened =
    absurd (not_asked end_text (is_interrupted bytes false) session middle said going made)
fed_one end_text session one other bytes out more none (move_first same between last rest told sent made later) going (no_bytes again) opened =
    absurd (not_asked end_text (is_interrupted bytes false) session between told opened made)
fed_one end_text session one other bytes out more none (move_first same between last rest told sent made later) going
    (byte_first again middle end again_byte again_rest said console_sent unasked second further) opened =
    absurd (not_asked end_text (is_interrupted bytes false) session between told unasked made)
fed_one end_text session one other bytes out more none (byte_first same between last byte rest told sent unasked first later) going
    (move_first again middle end again_rest said console_sent made further) opened =
    absurd (not_asked end_text (is_interrupted bytes false) session middle said unasked made)
fed_one end_text session one other bytes out more none (byte_first same between last byte rest told sent unasked first later) going
    (byte_first again middle end again_byte again_rest said console_sent still second further) opened =
    let current_state = byte_one session between middle byte told said first second in
    let there = fed_one end_text between one other rest sent console_sent none.1 later going
    (subst (λ (s : Session). IsReceived end_text false s rest console_sent other) (sym current_state.1) further) opened in
    (ap (λ (front : List ℕ). front ++ sent) current_state.0 ∙ ap (λ (behind : List ℕ). said ++ behind) there.0, there.1)
fed_one end_text session one other bytes out more none (move_first same between last rest told sent made later) going
    (move_first again middle end again_rest said console_sent again_made further) opened =
    let current_state = worked_one end_text (is_interrupted bytes false) session between middle told said (none_next bytes none) made again_made in
    let there = fed_one end_text between one other bytes sent console_sent none later going
    (subst (λ (s : Session). IsReceived end_text false s bytes console_sent other) (sym current_state.1) further) opened in
    (ap (λ (front : List ℕ). front ++ sent) current_state.0 ∙ ap (λ (behind : List ℕ). said ++ behind) there.0, there.1)
