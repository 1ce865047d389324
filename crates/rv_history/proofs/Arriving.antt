-- What holds of where a search ended holds of where a move ends.
use Rattle.std.proofs.Common.{◌≡◌, ℕ, Result, Ok, Err, ap, subst, sym}
use Rattle.std.specs.Result.{IfOk}
use Rattle.rv_history.specs.Positions.{Position}
use Rattle.rv_history.specs.declared.outcome.MoveResult.{MoveResult}

pub arrived : {E : Type 0} (P : ℕ → MoveResult → Type 0) (result : Result MoveResult E) (step : ℕ) (outcome : MoveResult) (before behind : Position)
    → IfOk result (λ told. told ≡ outcome) → IfOk result (λ told. behind ≡ record before { step = step }) → P step outcome
    → IfOk result (P behind.step)
arrived P (Ok told) step outcome before behind same moved holds =
    let there : step ≡ behind.step = sym (ap (λ (stand : Position). stand.step) moved) in
    subst (λ (k : ℕ). P k told) there (subst (P step) (sym same) holds)
arrived P (Err error) step outcome before behind same moved holds = tt
