use Rattle.std.proofs.Common.{◌≡◌, ◌-◌, ◌∙◌, ◌<◌, ◌++◌, Some, ap, append-nil, arith}
use Rattle.std.proofs.Common.{eqb-true, false, length, rules, suc, sym, true}
use Rattle.rv_list_locations.specs.declared.scan.ScanState.TheVariants.{Top}
use Rattle.rv_list_locations.specs.JobLocations.{job_texts_from, jobs_of_text, step}
use Rattle.rv_list_locations.specs.Steps.{texts_of_references}
use Rattle.rv_list_locations.proofs.JobTurns.{jobs_end, jobs_job, jobs_other, jobs_refused, texts_more, unless_err}
use Rattle.rv_list_locations.proofs.scan.push_job_texts.Goals as goal

pub steps-init : goal.steps-init
unfolding jobs_of_text
steps-init c =
    let noted = texts_of_references c.args.jobs.now.items in
    let text = c.args.text.now in
    let within = c.skip_blank_lines-here.ensures.within in (
      search rules,
      suc (length text),
      omega (arith, within),
      ap (λ rest. noted ++ job_texts_from (suc (length text)) Top rest) (sym c.skip_blank_lines-here.ensures.rest),
    )

pub returns-in_err-is_job : goal.returns-in_err-is_job
returns-in_err-is_job c =
    let l = c.steps in
    let noted = texts_of_references l.jobs.items in
    unless_err c.from_residual.result _ c.in_err-is_job.field-0.0 _ c.from_residual.ensures.1 (λ y k. k) λ refused.
    sym (l.invariant.3
    ∙ ap (λ jobs. noted ++ jobs) (jobs_refused l.invariant.1 l.state l.here.now (c.in_err-is_job.ensures.step refused))
    ∙ append-nil noted)

pub steps-preserved-in_ok-push : goal.steps-preserved-in_ok-push
steps-preserved-in_ok-push c =
    let l = c.steps in
    let here = l.here.now in
    let found = c.in_ok-is_job.field-0 in
    let shorter : length found.rest.now < length here = c.in_ok-is_job.ensures.shorter in
    let is : step l.state here ≡ Some (true, found.next, found.rest.now) =
    c.in_ok-is_job.ensures.step ∙ ap (λ job. Some (job, found.next, found.rest.now)) c.if-is_job.true in (
      search rules,
      l.invariant.1 - 1,
      omega (arith, l.invariant.2),
      l.invariant.3
          ∙ ap (λ jobs. texts_of_references l.jobs.items ++ jobs)
          (jobs_job l.invariant.1 l.state found.next here found.rest.now (omega (arith, l.invariant.2)) (omega arith) is)
          ∙ texts_more l.here (job_texts_from (l.invariant.1 - 1) found.next found.rest.now) l.jobs.items c.push.new.self.items
          c.in_ok-push.ensures.items,
    )

pub steps-preserved : goal.steps-preserved
steps-preserved c =
    let l = c.steps in
    let here = l.here.now in
    let found = c.in_ok-is_job.field-0 in
    let shorter : length found.rest.now < length here = c.in_ok-is_job.ensures.shorter in
    let is : step l.state here ≡ Some (false, found.next, found.rest.now) =
    c.in_ok-is_job.ensures.step ∙ ap (λ job. Some (job, found.next, found.rest.now)) c.if-is_job.false in (
      search rules,
      l.invariant.1 - 1,
      omega (arith, l.invariant.2),
      l.invariant.3
          ∙ ap (λ jobs. texts_of_references l.jobs.items ++ jobs)
          (jobs_other l.invariant.1 l.state found.next here found.rest.now (omega (arith, l.invariant.2)) (omega arith) is),
    )

pub returns : goal.returns
returns c =
    let l = c.steps in
    let noted = texts_of_references l.jobs.items in
    let empty : length l.here.now ≡ 0 = eqb-true _ _ (sym c.is_empty.ensures ∙ c.steps-test.false) in
    sym (l.invariant.3 ∙ ap (λ jobs. noted ++ jobs) (jobs_end l.invariant.1 l.state l.here.now empty) ∙ append-nil noted)
