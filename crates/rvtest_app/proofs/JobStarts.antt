-- Where the run of the job at a place starts.
use Rattle.std.proofs.Common.{◌≡◌, ◌∙◌, ◌<◌, ℕ, List, [], Option, Result, Ok, Err, ap, length, refl, slice_index_or, sym, true, unwrap_or}
use Rattle.std.proofs.lemmas.Option.{slice_get-get_or}
use Rattle.std.specs.Prelude.{is_ok, option_and_then}
use Rattle.std.specs.Result.{result_ok}
use Rattle.rv_gdb.specs.JobSessions.{IsSessionOf}
use Rattle.rv_gdb.specs.Starts.{start_of}
use Rattle.rv_rows.specs.Plans.{PlanView}
use Rattle.rv_rows.specs.declared_job.Job.{Job}
use Rattle.rv_rows.specs.State.{State}
use Rattle.rv_rows.specs.declared_row.Refusal.{Refusal}
use Rattle.rv_rows.specs.Flat.{flat_state}
use Rattle.rv_rows.specs.Rows.{start_state_in}
use Rattle.rv_gdb.specs.declared_session.Session.{Session}
use Rattle.rvtest_app.specs.Debugging.{job_start_state}

pub start_is : (plan : PlanView) (index : ℕ) (d : Job) (first : State) → index < length plan.jobs
    → start_state_in plan.results (slice_index_or plan.jobs index d) ≡ Ok first → job_start_state plan index ≡ first
unfolding job_start_state
start_is plan index d first within starts =
    ap (λ (found : Option Job). unwrap_or (option_and_then (λ (job : Job). result_ok (start_state_in plan.results job)) found) (flat_state []))
    (slice_get-get_or plan.jobs index d within)
    ∙ ap (λ (found : Result State Refusal). unwrap_or (result_ok found) (flat_state [])) starts

ok_there : {A E : Type 0} (r : Result A E) → is_ok r ≡ true → (x : A) × (r ≡ Ok x)
ok_there (Ok x) e = (x, refl)
ok_there (Err stop) e = cc

-- a job that is not refused starts there
pub starts_there : (plan : PlanView) (index : ℕ) (d : Job) → index < length plan.jobs
    → is_ok (start_state_in plan.results (slice_index_or plan.jobs index d)) ≡ true
    → start_state_in plan.results (slice_index_or plan.jobs index d) ≡ Ok (job_start_state plan index)
starts_there plan index d within runs =
    let found = ok_there (start_state_in plan.results (slice_index_or plan.jobs index d)) runs in
    found.1 ∙ ap (λ (s : State). Ok s) (sym (start_is plan index d found.0 within found.1))

-- and so does the session over its run
pub session_starts_there : (plan : PlanView) (index : ℕ) (d : Job) (path : List ℕ) (session : Session) → index < length plan.jobs
    → IsSessionOf plan.results (slice_index_or plan.jobs index d) path session
    → job_start_state plan index ≡ session.history.start
session_starts_there plan index d path session within over =
    start_is plan index d (start_of over.start) within over.start_is
    ∙ sym (ap (λ (s : Session). s.history.start) over.session_is)
