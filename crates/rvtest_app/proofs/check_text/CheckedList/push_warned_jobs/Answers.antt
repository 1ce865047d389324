use Rattle.std.proofs.Common.{◌∙◌, ◌+◌, ◌<◌, ◌++◌, ap, arith, cond, length, sym, take}
use Rattle.std.specs.List.{filter}
use Rattle.std.proofs.lemmas.List.Filters.{length-filter_more}
use Rattle.rv_expect.specs.TwoEnds.{expects_two_ends}
use Rattle.rv_rows.specs.declared_job.Job.{Job}
use Rattle.rvtest_app.specs.CheckText.{warned_job_text}
use Rattle.rvtest_app.proofs.JobTexts.{texts_before-all, texts_before-more}
use Rattle.rvtest_app.proofs.check_text.CheckedList.push_warned_jobs.Goals.{else-expects_two_ends, then-expects_two_ends}
use Rattle.rvtest_app.proofs.check_text.CheckedList.push_warned_jobs.Goals as goal

pub loop-place-preserved : goal.loop-place-preserved
loop-place-preserved c =
    let list = c.args.self.now in
    let jobs = list.plan.now.jobs in
    let place = c.loop-place.place in
    let job = c.job-job.result.now in
    let below : place < length jobs = omega (arith, c.jobs-place-end.ensures.value) in
    let line = warned_job_text list.path.now list.lines.now in
    let text = texts_before-more line jobs place job _ _ _ below c.loop-place.invariant.text
    (c.in_ok-push_job_if_warned.ensures
    ∙ ap (λ (one : Job). c.loop-place.text.items ++ line place one) c.job-job.ensures.value) in
    let before = length (filter expects_two_ends (take place jobs)) in
    let more = length-filter_more expects_two_ends jobs place job below in
    let warned = c.expects_two_ends.ensures ∙ ap expects_two_ends c.job-job.ensures.value in
    let within = c.loop-place.invariant.within in
    let count = c.loop-place.invariant.count in
    elim c.if-expects_two_ends.branch [
      | then-expects_two_ends w ↦
          let next = more ∙ ap (λ holds. before + cond holds 1 0) (sym warned ∙ w.if-expects_two_ends.true) in
          record {
            text = text;
            count = omega (arith, w.warned-is, count, next);
            within = omega (arith, w.warned-is);
          }
      | else-expects_two_ends w ↦
          let next = more ∙ ap (λ holds. before + cond holds 1 0) (sym warned ∙ w.if-expects_two_ends.false) in
          record {
            text = text;
            count = omega (arith, w.warned-is, count, next);
            within = omega (arith, w.warned-is);
          }
    ]

pub returns-clause-text : goal.returns-clause-text
returns-clause-text c =
    let list = c.args.self.now in
    texts_before-all (warned_job_text list.path.now list.lines.now) list.plan.now.jobs c.loop-place.place
    _ _ (omega (arith, c.jobs-place-end.ensures.value)) c.loop-place.invariant.text
