use Rattle.std.proofs.Common.{ℕ, ◌<◌, sym, ap, subst}
use Rattle.rv_claims.specs.Draws.{IsIn}
use Rattle.rv_claims.specs.Passes.{PassView, CounterView, IsWholeHistory}
use Rattle.rv_claims.proofs.Passes.{ends_whole, ends_pieces}
use Rattle.rv_claims.proofs.claims.Claims.finish.Goals as goal

pub returns-clause-all : goal.returns-clause-all
returns-clause-all c is_whole =
    subst (λ (h : PassView). IsWholeHistory h.draws) c.pass.view_is
    (ends_whole _ _ _ _ _ _ _ c.pass.invariant c.close_with-closed.ensures.values.2
    (c.has_all_assigned_indices-all.ensures.held is_whole))

pub returns-clause-pieces : goal.returns-clause-pieces
returns-clause-pieces c is_whole over x low =
    let pieces = ap (λ (d : CounterView). d.pieces) (sym c.requires) in
    ends_pieces _ _ (returns-clause-all c is_whole) over x (subst (λ (n : ℕ). x < n) pieces low)

pub returns-clause-full : goal.returns-clause-full
returns-clause-full c all =
    c.has_all_assigned_indices-all.ensures.full
    (λ p low _. c.pass.invariant.set p (subst (λ (h : PassView). IsIn p h.pass_indices) (sym c.pass.view_is) (all p low)))
