use Rattle.std.proofs.Common.{◌∙◌, ◌+◌, sym, arith, ap, length, length-append, ◌∷◌, [], Ok}
use Rattle.rv_lists.proofs.Steps.{turn_pushed, turn_bad, step_end}
use Rattle.rv_lists.specs.JobList.{names_of_jobs}
use Rattle.rv_lists.proofs.list.jobs_of_elements.Goals as goal

pub returns-in-Err : goal.returns-in-Err
returns-in-Err c = λ real. sym c.loop-at.invariant.0
    ∙ turn_bad c.loop-at.jobs (c.loop-at.at + 1) (names_of_jobs c.loop-at.jobs) c.args.elements.now c.loop-at.at
    c.index-elements-at.result c.in-Err.what c.loop-at-test.true
    (rw (← c.index-elements-at.is) (c.in-Err.ensures.value real))

pub loop-at-preserved : goal.loop-at-preserved
loop-at-preserved c = (
  turn_pushed c.loop-at.jobs c.in-Ok.job c.in-Ok-append_job.jobs (c.loop-at.at + 1) c.args.elements.now c.loop-at.at
      c.index-elements-at.result c.in-Ok-append_job.ensures c.loop-at-test.true
      (rw (← c.index-elements-at.is) c.in-Ok.ensures.value) ∙ c.loop-at.invariant.0,
  ap length c.in-Ok-append_job.ensures
      ∙ omega (arith, length-append c.loop-at.jobs (c.in-Ok.job ∷ []), c.loop-at.invariant.1),
)

pub returns : goal.returns
returns c = sym c.loop-at.invariant.0
    ∙ step_end c.loop-at.jobs (c.loop-at.at + 1) (names_of_jobs c.loop-at.jobs) c.args.elements.now c.loop-at.at
    c.loop-at-test.false ∙ ap Ok (sym c.into_job_list.ensures)
