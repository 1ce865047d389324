use Rattle.std.proofs.Common.{◌∙◌, [], None, Some, refl, sym}
use Rattle.std.proofs.lemmas.Result.{on_ok_weaker}
use Rattle.rv_session.proofs.Appending.{byte_heard, named_otherwise, nothing_more}
use Rattle.rv_session.proofs.session.Session.receive_byte.Goals as goal

pub returns-in-Some : goal.returns-in-Some
returns-in-Some c = on_ok_weaker c.respond.result
    (named_otherwise _ _ _ _
    (λ out response. byte_heard c.args.self.now c.respond.new.self c.receive_byte.new.self (Some c.in-Some.received) c.args.byte out
    c.in_ok-received.ensures.state (sym c.in-Some.is ∙ c.in_ok-received.ensures.item) response))
    c.respond.ensures

pub returns-in-None : goal.returns-in-None
returns-in-None c = nothing_more _ _
    (byte_heard c.args.self.now _ c.receive_byte.new.self None c.args.byte [] c.in_ok-received.ensures.state
    (sym c.in-None.is ∙ c.in_ok-received.ensures.item) (refl, refl))
