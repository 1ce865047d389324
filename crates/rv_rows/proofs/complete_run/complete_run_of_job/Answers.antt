use Rattle.std.proofs.Common.{◌≡◌, ◌∙◌, ◌≤◌, slice_index_or, subst, sym}
use Rattle.rv_jobs.specs.declared_job.Job.{Job}
use Rattle.rv_rows.specs.Outcome.{start_of}
use Rattle.rv_rows.specs.Rows.{start_state_in}
use Rattle.rv_rows.proofs.RestsOfRuns.{starts_over_file}
use Rattle.rv_rows.proofs.complete_run.complete_run_of_job.Goals as goal

pub complete_run_of_file-requires-clause-intermediate : goal.complete_run_of_file-requires-clause-intermediate
complete_run_of_file-requires-clause-intermediate c =
    let job = c.job.result.now in
    let way = c.requires.intermediate job in
    let listed : start_of job c.image.result.now _ _ ≡ start_state_in c.args.plan.now.results (slice_index_or c.args.plan.now.jobs c.args.i job) =
    λ k. start_of (c.job.ensures.value k) (c.image.ensures job k) (c.reference.ensures job k) (c.console_reference.ensures job k) in
    record {
      first = way.first;
      starts = sym (starts_over_file job c.image.result.now _ _ c.in-Ok.file.now c.in-Ok.ensures) ∙ listed ∙ way.starts;
      completed = way.completed;
      same = way.same;
      within = subst (λ (one : Job). c.args.steps ≤ one.budget) (sym c.job.ensures.value) way.within;
    }
