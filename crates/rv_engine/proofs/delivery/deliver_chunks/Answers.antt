use Rattle.std.proofs.Common.{◌≡◌, ◌*◌, ℕ, ap, arith, min}
use Rattle.rv_engine.proofs.Hearing.{heard_as}
use Rattle.rv_engine.proofs.delivery.deliver_chunks.Goals as goal

pub returns-clause-received : goal.returns-clause-received
returns-clause-received g c =
    let here : c.loop-next.next ≡ c.max.result = omega (arith, c.max.ensures, c.loop-next.invariant.low, c.loop-next.invariant.high) in (
      heard_as g.J.RunSpec.is_result g.J.RunSpec.jobs (g.L.Listener.has_received c.loop-next.listener) _ _
          (ap (λ (n : ℕ). min (n * g.J.RunSpec.group) g.J.RunSpec.jobs) here) c.loop-next.invariant.received.0,
      c.loop-next.invariant.received.1,
    )
