use Rattle.std.proofs.Common.{◌∙◌, ◌≤◌, arith, subst}
use Rattle.std.proofs.lemmas.List.{get_or_read}
use Rattle.rv_rows.specs.declared_job.Job.{Job}
use Rattle.rvtest_app.specs.Debugging.{job_start_state}
use Rattle.rvtest_app.proofs.JobStarts.{starts_there}
use Rattle.rvtest_app.proofs.planned_job.row_after_steps.Goals as goal

pub row_from-requires-clause-intermediate : goal.row_from-requires-clause-intermediate
row_from-requires-clause-intermediate c =
    let end = c.args.job.now in
    λ d. record {
      first = job_start_state end.plan end.index;
      starts = starts_there end.plan end.index d end.within (end.runs d);
      completed = c.requires.completed;
      same = c.in_ok-try_clone.ensures ∙ c.requires.state_is;
      within = subst (λ (one : Job). c.args.steps ≤ one.budget)
          (get_or_read end.plan.jobs end.index c.job.result.now end.within c.job.ensures.value d) (omega (arith));
    }
