use Rattle.rv_session.specs.Incoming.{IsByteReceived}
use Rattle.rv_session.proofs.Appending.{to_nothing}
use Rattle.rv_session.proofs.Asking.{byte_may}
use Rattle.rv_session.proofs.Same.{byte_same}
use Rattle.rv_session.proofs.session.Session.receive.Goals as goal

pub returns-clause-received : goal.returns-clause-received
returns-clause-received c =
    to_nothing _ c.receive_byte.new.out.items (λ out. IsByteReceived c.args.self.now c.args.byte out c.receive_byte.new.self)
    c.new-out.ensures.items c.in_ok-receive_byte.ensures

pub returns-clause-same_run : goal.returns-clause-same_run
returns-clause-same_run c =
    byte_same c.args.self.now c.receive_byte.new.self c.args.byte c.receive_byte.new.out.items
    (to_nothing _ c.receive_byte.new.out.items (λ out. IsByteReceived c.args.self.now c.args.byte out c.receive_byte.new.self)
    c.new-out.ensures.items c.in_ok-receive_byte.ensures)

pub returns-clause-not_over : goal.returns-clause-not_over
returns-clause-not_over c =
    byte_may c.args.self.now c.receive_byte.new.self c.args.byte c.receive_byte.new.out.items c.requires
    (to_nothing _ c.receive_byte.new.out.items (λ out. IsByteReceived c.args.self.now c.args.byte out c.receive_byte.new.self)
    c.new-out.ensures.items c.in_ok-receive_byte.ensures)
