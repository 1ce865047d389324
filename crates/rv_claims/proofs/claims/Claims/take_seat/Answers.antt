use Rattle.std.proofs.Common.{◌∙◌, sym, ap, refl, arith}
use Rattle.rv_claims.specs.Passes.{CounterView}
use Rattle.rv_claims.proofs.Keeps.{sits}
use Rattle.rv_claims.proofs.Passes.{sat_there, seated_pass}
use Rattle.rv_claims.proofs.claims.Claims.take_seat.Goals as goal

pub swap-requires : goal.swap-requires
swap-requires c =
    let table = ap (λ (d : CounterView). d.table) c.self.view_is in (
      c.loop-index.invariant.0 ∙ sym table,
      omega (arith, c.self.invariant.1),
      sits _ _ _ _ c.loop-index.index _ (omega arith) refl,
    )

pub invariant_of-result : goal.invariant_of-result
invariant_of-result c = seated_pass _ _ _ _ (omega arith) refl
    (sat_there _ _ _ c.loop-index.index _ refl c.loop-index.invariant.1 c.if-swap-eq0.true c.swap.ensures.2)
