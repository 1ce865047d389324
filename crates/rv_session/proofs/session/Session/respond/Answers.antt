use Rattle.std.proofs.Common.{◌∙◌, [], ℕ, List, refl, subst, sym}
use Rattle.std.proofs.lemmas.Result.{on_ok_weaker}
use Rattle.rv_session.specs.Incoming.{IsPacketResponse}
use Rattle.rv_session.proofs.Appending.{both_ok, named_otherwise, not_over, nothing_more, over, these_more}
use Rattle.rv_session.proofs.session.Session.respond.Goals as goal

pub returns-then-self : goal.returns-then-self
returns-then-self c = nothing_more _ _ (over c.args.self.now c.args.received.now c.if-self.true)

pub returns-in-Interrupt : goal.returns-in-Interrupt
returns-in-Interrupt c = nothing_more _ _
    (not_over c.args.self.now c.args.self.now c.args.received.now [] c.if-self.false (rw c.in-Interrupt.is (refl, refl)))

pub returns-in-Acknowledged : goal.returns-in-Acknowledged
returns-in-Acknowledged c = nothing_more _ _
    (not_over c.args.self.now c.args.self.now c.args.received.now [] c.if-self.false (rw c.in-Acknowledged.is (refl, refl)))

pub returns-in-ResendRequested : goal.returns-in-ResendRequested
returns-in-ResendRequested c = on_ok_weaker c.resend.result
    (λ sent. these_more _ _ _ _ sent
    (not_over c.args.self.now c.args.self.now c.args.received.now _ c.if-self.false (rw c.in-ResendRequested.is (refl, refl))))
    c.resend.ensures

pub returns-in-TooLong : goal.returns-in-TooLong
returns-in-TooLong c = both_ok _ _ _ c.reject_long_packet.result c.reject_long_packet.ensures.out c.reject_long_packet.ensures.next
    (λ sent kept. these_more _ _ _ _ sent
    (not_over c.args.self.now c.reject_long_packet.new.self c.args.received.now _ c.if-self.false (rw c.in-TooLong.is (refl, kept))))

pub returns-then-is_rejected : goal.returns-then-is_rejected
returns-then-is_rejected c =
    let again = sym c.is_rejected.ensures ∙ c.if-is_rejected.true in
    on_ok_weaker c.request_resend.result
    (λ sent. these_more _ _ _ _ sent (not_over c.args.self.now c.args.self.now c.args.received.now _
    c.if-self.false (rw c.in-Packet.is (rw again (refl, refl)))))
    c.request_resend.ensures

pub returns-else-is_rejected : goal.returns-else-is_rejected
returns-else-is_rejected c =
    let right = sym c.is_rejected.ensures ∙ c.if-is_rejected.false in
    let takes : List ℕ → List ℕ → Type 0 = λ body out. IsPacketResponse c.args.self.now body out c.respond_to_body.new.self in
    on_ok_weaker c.respond_to_body.result
    (named_otherwise _ _ (takes c.as_slice.result.now) _
    (λ out took. not_over c.args.self.now c.respond_to_body.new.self c.args.received.now out c.if-self.false
    (rw c.in-Packet.is (rw right (subst (λ (body : List ℕ). takes body out) c.as_slice.ensures took)))))
    c.respond_to_body.ensures
