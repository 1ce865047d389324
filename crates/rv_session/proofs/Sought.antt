-- Seeks, and what they grant.
use Rattle.std.proofs.Common.{◌≡◌, ◌∙◌, ◌≤◌, ℕ, Bool, true, false, ap, arith, leb}
use Rattle.std.specs.Prelude.{◌↔◌, IsTrue, if◌then◌else◌}
use Rattle.std.proofs.lemmas.Bool.{le-leb, leb-true}
use Rattle.std.proofs.lemmas.Bool.Decides.{same_from_decides}
use Rattle.rv_history.specs.Positions.{Position}
use Rattle.rv_session.specs.Sessions.{at_step}
use Rattle.rv_session.specs.declared.session.Session.{Session}

pub granted_is : (ok_reply : Bool) (step last : ℕ) → (IsTrue ok_reply ↔ (step ≤ last)) → ok_reply ≡ leb step last
granted_is ok_reply step last tells = same_from_decides ok_reply (leb step last) tells
    (leb-true step last, le-leb step last)

-- a move that is granted
moved_where : (session : Session) (history : Position) (step : ℕ) (ok_reply : Bool)
    → history ≡ (if ok_reply then record session.history { step = step } else session.history)
    → record session { history = history } ≡ (if ok_reply then at_step session step else session)
moved_where session history step true is = ap (λ (h : Position). record session { history = h }) is
moved_where session history step false is = ap (λ (h : Position). record session { history = h }) is

pub sought_where : (session : Session) (history : Position) (step last : ℕ) (ok_reply : Bool)
    → (IsTrue ok_reply ↔ (step ≤ last))
    → history ≡ (if ok_reply then record session.history { step = step } else session.history)
    → record session { history = history } ≡ (if leb step last then at_step session step else session)
sought_where session history step last ok_reply tells is =
    moved_where session history step ok_reply is
    ∙ ap (λ (b : Bool). if b then at_step session step else session) (granted_is ok_reply step last tells)

-- the start is always granted
pub went_to_start : (session : Session) (history : Position) (last : ℕ) (ok_reply : Bool) → (IsTrue ok_reply ↔ (0 ≤ last))
    → history ≡ (if ok_reply then record session.history { step = 0 } else session.history)
    → record session { history = history } ≡ at_step session 0
went_to_start session history last ok_reply tells is =
    moved_where session history 0 ok_reply is
    ∙ ap (λ (b : Bool). if b then at_step session 0 else session) (tells.1 (omega arith))
