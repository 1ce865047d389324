use Rattle.std.proofs.Common.{◌∙◌, ◌+◌, ◌<◌, [], ap, arith, cond, length, sym, take}
use Rattle.std.specs.List.{filter}
use Rattle.std.proofs.lemmas.List.Filters.{length-filter_more}
use Rattle.rv_rows.specs.Jobs.{single_job}
use Rattle.rvtest_app.specs.CheckText.{refused_job_text}
use Rattle.rvtest_app.specs.Commands.{is_job_refused}
use Rattle.rvtest_app.proofs.JobTexts.{texts_before-all, texts_before-more}
use Rattle.rvtest_app.proofs.check_text.CheckedList.push_refused_jobs.Goals.{else-is_refused, then-is_refused}
use Rattle.rvtest_app.proofs.check_text.CheckedList.push_refused_jobs.Goals as goal

pub overflow_add-refused : goal.overflow_add-refused
overflow_add-refused c =
    let within = c.loop-place.invariant.within in
    omega (arith, c.jobs-place-end.ensures.few)

pub loop-place-preserved : goal.loop-place-preserved
loop-place-preserved c =
    let any = single_job [] 0 [] in
    let list = c.args.self.now in
    let plan = list.plan.now in
    let place = c.loop-place.place in
    let below : place < length plan.jobs = omega (arith, c.jobs-place-end.ensures.value) in
    let text = texts_before-more (refused_job_text list.path.now list.lines.now plan list.unread.now) plan.jobs place any
    _ _ _ below c.loop-place.invariant.text (c.in_ok-is_refused.ensures.text any) in
    let before = length (filter (is_job_refused plan) (take place plan.jobs)) in
    let more = length-filter_more (is_job_refused plan) plan.jobs place any below in
    let refused = c.in_ok-is_refused.ensures.refused any in
    let within = c.loop-place.invariant.within in
    let count = c.loop-place.invariant.count in
    elim c.if-is_refused.branch [
      | then-is_refused w ↦
          let next = more ∙ ap (λ holds. before + cond holds 1 0) (sym refused ∙ w.if-is_refused.true) in
          record {
            text = text;
            count = omega (arith, w.refused-is, count, next);
            within = omega (arith, w.refused-is);
          }
      | else-is_refused w ↦
          let next = more ∙ ap (λ holds. before + cond holds 1 0) (sym refused ∙ w.if-is_refused.false) in
          record {
            text = text;
            count = omega (arith, w.refused-is, count, next);
            within = omega (arith, w.refused-is);
          }
    ]

pub returns-clause-text : goal.returns-clause-text
returns-clause-text c =
    let list = c.args.self.now in
    let plan = list.plan.now in
    texts_before-all (refused_job_text list.path.now list.lines.now plan list.unread.now) plan.jobs c.loop-place.place
    _ _ (omega (arith, c.jobs-place-end.ensures.value)) c.loop-place.invariant.text
