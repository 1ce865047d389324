-- Moves forward on their way, and where they end.
use Rattle.std.proofs.Common.{◌≡◌, ◌∙◌, ◌&&◌, ◌<◌, ◌≤◌, ℕ, true, false, Ok, Err, ap, arith, ltb, refl, subst, sym}
use Rattle.rv_trace.specs.Machine.{state_of}
use Rattle.rv_trace.specs.Run.{run_of, step_of}
use Rattle.rv_trace.specs.State.{State}
use Rattle.rv_trace.specs.declared_ending.Ending.{Ending}
use Rattle.rv_trace.specs.Trace.{state_after}
use Rattle.rv_history.specs.StoredStates.{IsAt}
use Rattle.rv_history.specs.ForwardMoves.{IsForwardMoveEnd, IsMoveInProgress}
use Rattle.rv_history.specs.Moves.{IsNextStop, result_at_budget}
use Rattle.rv_history.specs.Stops.{TriggersWatch, halts_at}
use Rattle.rv_history.specs.declared.bounds.Bounds.TheVariants as bounds
use Rattle.rv_history.specs.declared.outcome.MoveResult.{MoveResult}
use Rattle.rv_history.specs.declared.outcome.MoveResult.TheVariants as outcome
use Rattle.rv_history.specs.declared.forward_move.MoveEnd.{MoveEnd}
use Rattle.rv_history.specs.declared.forward_move.ForwardMove.{ForwardMove}
use Rattle.rv_history.specs.declared.machine_at.MachineAt.{MachineAt}
use Rattle.rv_history.specs.declared.stops.Stops.{Stops}
use Rattle.rv_history.proofs.Forward.{stops_at_budget, stops_by_break, stops_by_change, stops_by_end, stops_by_interrupt}

-- what changes of a move is where it stands
pub still_on : (forward_move now next : ForwardMove) → now ≡ record forward_move { at = now.at } → next ≡ record now { at = next.at }
    → next ≡ record forward_move { at = next.at }
still_on forward_move now next same is = is ∙ ap (λ (l : ForwardMove). record l { at = next.at }) same

-- so the addresses are all where they were
pub all_addresses : (forward_move now : ForwardMove) → now ≡ record forward_move { at = now.at } → forward_move.bounds ≡ bounds.All → now.bounds ≡ bounds.All
all_addresses forward_move now same all = ap (λ (l : ForwardMove). l.bounds) same ∙ all

-- a machine at the same place, with the same state
same_at : (start : State) (one other : MachineAt) → IsAt start one → other.step ≡ one.step
    → state_of other.machine ≡ state_of one.machine → IsAt start other
same_at start one other there step state = record {
  completed = subst (λ (k : ℕ). (run_of k start).steps ≡ k) (sym step) there.completed;
  state_is = state ∙ there.state_is ∙ ap (λ k. state_after k start) (sym step);
}

-- a move that ends ends where it stands
pub arrives : (stops : Stops) (start : State) (forward_move now : ForwardMove) (at : MachineAt) (told : MoveResult) (arrived : MoveEnd)
    → now ≡ record forward_move { at = now.at } → arrived ≡ record { at = at; outcome = told } → IsAt start at → at.step ≡ now.at.step
    → IsNextStop stops now.bounds now.budget start now.from now.at.step told → IsForwardMoveEnd stops start forward_move arrived
arrives stops start forward_move now at told arrived same is there step stop =
    let here : IsForwardMoveEnd stops start now (record { at = at; outcome = told }) =
    (there, subst (λ (k : ℕ). IsNextStop stops now.bounds now.budget start now.from k told) (sym step) stop) in
    subst (λ (a : MoveEnd). IsForwardMoveEnd stops start forward_move a) (sym is)
    (subst (λ (l : ForwardMove). IsForwardMoveEnd stops start l (record { at = at; outcome = told })) same here)

module _ (stops : Stops) (start : State) (forward_move now : ForwardMove) (arrived : MoveEnd) (way : IsMoveInProgress stops start now)
    (same : now ≡ record forward_move { at = now.at }) where
  pub arrives_halted : arrived ≡ record { at = now.at; outcome = outcome.Breakpoint }
      → (ltb now.from now.at.step && halts_at stops now.bounds (state_of now.at.machine).pc) ≡ true → IsForwardMoveEnd stops start forward_move arrived
  arrives_halted is halts = arrives stops start forward_move now now.at outcome.Breakpoint arrived same is way.is_at refl
      (stops_by_break stops now.bounds now.budget now.from now.at.step start (state_of now.at.machine) way.is_at way.order
      way.within halts way.passed_no_stop)

  pub arrives_broken : arrived ≡ record { at = now.at; outcome = outcome.Interrupted }
      → (ltb now.from now.at.step && halts_at stops now.bounds (state_of now.at.machine).pc) ≡ false → IsForwardMoveEnd stops start forward_move arrived
  arrives_broken is halts = arrives stops start forward_move now now.at outcome.Interrupted arrived same is way.is_at refl
      (stops_by_interrupt stops now.bounds now.budget now.from now.at.step start (state_of now.at.machine) way.is_at way.order
      way.within halts way.passed_no_stop)

  pub arrives_ended : (at : MachineAt) (ending : Ending) → arrived ≡ record { at = at; outcome = outcome.End ending }
      → at.step ≡ now.at.step → state_of at.machine ≡ state_of now.at.machine → now.at.step < now.budget
      → step_of (state_of now.at.machine) ≡ Err ending
      → (ltb now.from now.at.step && halts_at stops now.bounds (state_of now.at.machine).pc) ≡ false → IsForwardMoveEnd stops start forward_move arrived
  arrives_ended at ending is step state goes e halts = arrives stops start forward_move now at (outcome.End ending) arrived same is
      (same_at start now.at at way.is_at step state) step
      (stops_by_end stops now.bounds now.budget now.from now.at.step start (state_of now.at.machine) ending way.is_at way.order
      goes e halts way.passed_no_stop)

  pub arrives_changed : (at : MachineAt) (t : State) → arrived ≡ record { at = at; outcome = outcome.WatchTriggered } → IsAt start at
      → at.step ≡ now.at.step → now.at.step < now.budget → step_of (state_of now.at.machine) ≡ Ok t
      → TriggersWatch stops (state_of now.at.machine) t
      → (ltb now.from now.at.step && halts_at stops now.bounds (state_of now.at.machine).pc) ≡ false → IsForwardMoveEnd stops start forward_move arrived
  arrives_changed at t is there step goes e differ halts = arrives stops start forward_move now at outcome.WatchTriggered arrived same is there step
      (stops_by_change stops now.bounds now.budget now.from now.at.step start (state_of now.at.machine) t way.is_at way.order
      goes e differ halts way.passed_no_stop)

  pub arrives_at_budget : (told : MoveResult) → arrived ≡ record { at = now.at; outcome = told } → now.budget ≤ now.at.step
      → told ≡ result_at_budget (ltb now.from now.at.step && halts_at stops now.bounds (state_of now.at.machine).pc)
      → IsForwardMoveEnd stops start forward_move arrived
  arrives_at_budget told is end told_is =
      let within = way.within in
      let order = way.order in
      let all : now.at.step ≡ now.budget = omega (arith, within, end) in
      let here = ap (λ (k : ℕ). result_at_budget (ltb now.from k && halts_at stops now.bounds (state_of now.at.machine).pc)) all in
      arrives stops start forward_move now now.at told arrived same is way.is_at refl
      (stops_at_budget stops now.bounds now.budget now.from now.at.step now.at.step start (state_of now.at.machine) told way.is_at
      (omega (arith, order, within)) all all (told_is ∙ here) way.passed_no_stop)
