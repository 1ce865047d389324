-- The stop that is told tells the ending.
use Rattle.std.proofs.Common.{◌≡◌, ◌∙◌, ◌+◌, ◌-◌, ℕ, Bool, List, Option, Some, None, ap, refl, sym}
use Rattle.std.specs.Prelude.{if◌then◌else◌}
use Rattle.rv_history.specs.declared.outcome.MoveResult.{MoveResult}
use Rattle.rv_history.specs.declared.outcome.MoveResult.TheVariants as outcome
use Rattle.rv_history.specs.declared.stops.WatchHit.{WatchHit}
use Rattle.rv_history.specs.declared.stops.WatchHit.TheVariants as hit
use Rattle.rv_history.specs.declared_ending.Ending.{Ending}
use Rattle.rv_history.specs.declared_ending.Ending.TheVariants as ending
use Rattle.rv_history.specs.declared_ending.FaultKind.{FaultKind}
use Rattle.rv_history.specs.declared_ending.FaultKind.TheVariants as fault
use Rattle.rv_gdb_protocol.specs.Stops.{NoEnding, EndKind, end_kind_of_stop, end_kind_of_fault}
use Rattle.rv_gdb_protocol.specs.declared.request.Move.{Move}
use Rattle.rv_session.specs.Endings.{text_at_end, end_kind_of_ending, end_kind_of_move_result}
use Rattle.rv_session.specs.Moved.{IsMoved, end_stop, end_text_at, is_forward, stop_of, watch_between, stop_of_watch_hit}
use Rattle.rv_session.specs.declared.reply.Reply.{Reply}
use Rattle.rv_session.specs.declared.session.Session.{Session}

watch_is_none : (outcome : Option WatchHit) → end_kind_of_stop (stop_of_watch_hit outcome) ≡ NoEnding
watch_is_none (Some (hit.Change address)) = refl
watch_is_none (Some (hit.Read address)) = refl
watch_is_none (Some (hit.Access address)) = refl
watch_is_none None = refl

end_is_told : (ending : Ending) → end_kind_of_stop (end_stop ending) ≡ end_kind_of_ending ending
end_is_told (ending.Exit code) = refl
end_is_told (ending.Fault kind pc value) = refl
end_is_told ending.Budget = refl

stop_is_told : (session : Session) (requested : Move) (step : ℕ) (outcome : MoveResult)
    → end_kind_of_stop (stop_of session requested step outcome) ≡ end_kind_of_move_result outcome
stop_is_told session requested step outcome.Done = refl
stop_is_told session requested step outcome.Breakpoint = refl
stop_is_told session requested step outcome.WatchTriggered = watch_is_none
    (if is_forward requested then watch_between session step (step + 1) else watch_between session (step - 1) step)
stop_is_told session requested step (outcome.End ending) = end_is_told ending
stop_is_told session requested step outcome.RunStart = refl
stop_is_told session requested step outcome.Interrupted = refl

fault_has_text : (kind : FaultKind) (end_text : List ℕ) → text_at_end (end_kind_of_fault kind) end_text ≡ end_text
fault_has_text fault.FetchAccess end_text = refl
fault_has_text fault.LoadAccess end_text = refl
fault_has_text fault.StoreAccess end_text = refl
fault_has_text fault.FetchMisaligned end_text = refl
fault_has_text fault.LoadMisaligned end_text = refl
fault_has_text fault.StoreMisaligned end_text = refl
fault_has_text fault.Illegal end_text = refl
fault_has_text fault.StaleCode end_text = refl
fault_has_text fault.Breakpoint end_text = refl
fault_has_text fault.UnknownCall end_text = refl
fault_has_text fault.ConsoleFull end_text = refl

text_is_told : (end_text : List ℕ) (outcome : MoveResult) → end_text_at end_text outcome ≡ text_at_end (end_kind_of_move_result outcome) end_text
text_is_told end_text (outcome.End (ending.Exit code)) = refl
text_is_told end_text (outcome.End (ending.Fault kind pc value)) = sym (fault_has_text kind end_text)
text_is_told end_text (outcome.End ending.Budget) = refl
text_is_told end_text outcome.Done = refl
text_is_told end_text outcome.Breakpoint = refl
text_is_told end_text outcome.WatchTriggered = refl
text_is_told end_text outcome.RunStart = refl
text_is_told end_text outcome.Interrupted = refl

pub end_told : (end_text : List ℕ) (may_break : Bool) (session next : Session) (requested : Move) (reply : Reply)
    (moved : IsMoved end_text may_break session requested reply next)
    → (end_kind_of_stop next.last_stop ≡ end_kind_of_move_result moved.outcome) × (reply.end_text ≡ text_at_end (end_kind_of_stop next.last_stop) end_text)
end_told end_text may_break session next requested reply moved =
    let told : end_kind_of_stop next.last_stop ≡ end_kind_of_move_result moved.outcome =
    ap (λ (s : Session). end_kind_of_stop s.last_stop) moved.next_is ∙ stop_is_told session requested moved.step moved.outcome in (
      told,
      ap (λ (r : Reply). r.end_text) moved.reply_is ∙ text_is_told end_text moved.outcome
          ∙ ap (λ (t : EndKind). text_at_end t end_text) (sym told),
    )
