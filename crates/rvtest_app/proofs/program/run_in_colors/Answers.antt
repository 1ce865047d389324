use Rattle.std.proofs.Common.{◌≡◌, ◌⊎◌, ◌∙◌, ℕ, true, false, Result, Ok, Err, IfErr, IfOk, ap, refl, ⊎_elim}
use Rattle.std.specs.Prelude.{MatchResult, is_err}
use Rattle.rv_terminal.specs.ColorSinks.{first_state, has_failed}
use Rattle.rv_terminal.specs.declared.colors.Colors.{Colors}
use Rattle.rv_terminal.specs.declared.colors.Colors.TheVariants as colors
use Rattle.rv_command.specs.declared.stop.Stop.{Stop}
use Rattle.rv_command.specs.declared.stop.Stop.TheVariants as stops
use Rattle.rvtest_app.proofs.program.run_in_colors.Goals as goal

-- results are not cut off where nothing was put
begins_whole : (colors : Colors) → has_failed (first_state colors) ≡ false
begins_whole colors.Plain = refl
begins_whole colors.Colored = refl

-- an answer that is an error where results went out in part; where nothing was put they are whole
stop_of_whole : {W E : Type 0} (answer : Result ℕ Stop) (whole : Result W E) (result : Result ℕ Stop) (Untouched : Type 0)
    (Stops : Stop → Type 0) → (Untouched → is_err whole ≡ false)
    → MatchResult answer
    (λ status. MatchResult whole (λ _. result ≡ Ok status) (λ _. result ≡ Err stops.WriteFailed))
    (λ stop. result ≡ Err stop)
    → IfOk answer (λ _. Stops stops.WriteFailed ⊎ Untouched) → IfErr answer Stops → IfErr result Stops
stop_of_whole (Ok status) (Ok w) result Untouched Stops is_whole is done stopped = rw is tt
stop_of_whole (Ok status) (Err e) result Untouched Stops is_whole is done stopped =
    rw is (⊎_elim (λ stops. stops) (λ same. let no : true ≡ false = is_whole same in absurd cc) done)
stop_of_whole (Err stop) whole result Untouched Stops is_whole is done stopped = rw is stopped

pub returns-clause-stopped : goal.returns-clause-stopped
returns-clause-stopped g c =
    stop_of_whole c.run_subcommand-destinations.result.1 c.finish-out.result.1 c.outcome_if_written.result _ _
    (λ same. c.finish-out.ensures.error_if_failed ∙ ap (λ s. has_failed s.state) same ∙ ap has_failed c.new-out.ensures.state
    ∙ begins_whole _)
    c.outcome_if_written.ensures c.run_subcommand-destinations.ensures.out_unchanged c.run_subcommand-destinations.ensures.stopped
