-- The prover's representation of a `Position`: its parts as nested pairs, from which it can be recovered. This file states nothing about
-- runs.
use Rattle.std.specs.Prelude.{ℕ, refl}
use Rattle.std.specs.Coded.{Coded, code_by, coded_ℕ, coded×}
use Rattle.rv_trace.specs.State.{State}
pub use Rattle.rv_trace.proofs.Public.{state_code}
use Rattle.rv_history.specs.Positions.{Position}

-- the representation of a `Position` as nested pairs
abbrev pub position_code : Coded Position
position_code = code_by (State × (ℕ × ℕ)) (coded× state_code (coded× coded_ℕ coded_ℕ))
    (λ stand. (stand.start, (stand.budget, stand.step)))
    (λ p. record { start = p.0; budget = p.1.0; step = p.1.1 }) (λ _. refl)
