use Rattle.std.proofs.Common.{◌≡◌, ◌-◌, ◌∙◌, ◌<◌, ◌++◌, Some, ap, append-nil, arith}
use Rattle.std.proofs.Common.{eqb-true, false, length, map, refl, rules, suc, sym, true}
use Rattle.rv_list_locations.specs.declared.scan.ScanState.TheVariants.{Top}
use Rattle.rv_list_locations.specs.JobLocations.{job_texts_from, jobs_of_text, line_of_suffix, step}
use Rattle.rv_list_locations.specs.LinesAndColumns.{line_at}
use Rattle.rv_list_locations.proofs.JobTurns.{jobs_end, jobs_job, jobs_other, jobs_refused, noted_more, unless_err}
use Rattle.rv_list_locations.proofs.scan.push_job_lines.Goals as goal

pub steps-init : goal.steps-init
unfolding jobs_of_text
steps-init c =
    let noted = c.args.lines.now.recorded.items in
    let line = line_of_suffix c.args.lines.now.text.now in
    let text = c.args.text.now in
    let within = c.skip_blank_lines-here.ensures.within in (
      search rules,
      refl,
      omega (arith, c.requires, within),
      suc (length text),
      omega (arith, within),
      ap (λ rest. noted ++ map line (job_texts_from (suc (length text)) Top rest)) (sym c.skip_blank_lines-here.ensures.rest),
    )

pub returns-in_err-is_job-clause-recorded : goal.returns-in_err-is_job-clause-recorded
returns-in_err-is_job-clause-recorded c =
    let l = c.steps in
    let noted = l.lines.recorded.items in
    let line = line_of_suffix c.args.lines.now.text.now in
    unless_err c.from_residual.result _ c.in_err-is_job.field-0.0 _ c.from_residual.ensures.1 (λ y k. k) λ refused.
    sym (l.invariant.5
    ∙ ap (λ jobs. noted ++ map line jobs) (jobs_refused l.invariant.3 l.state l.here.now (c.in_err-is_job.ensures.step refused))
    ∙ append-nil noted)

pub steps-preserved-in_ok-push_line : goal.steps-preserved-in_ok-push_line
steps-preserved-in_ok-push_line c =
    let l = c.steps in
    let text = c.args.lines.now.text.now in
    let noted = l.lines.recorded.items in
    let here = l.here.now in
    let found = c.in_ok-is_job.field-0 in
    let shorter : length found.rest.now < length here = c.in_ok-is_job.ensures.shorter in
    let is : step l.state here ≡ Some (true, found.next, found.rest.now) =
    c.in_ok-is_job.ensures.step ∙ ap (λ job. Some (job, found.next, found.rest.now)) c.if-is_job.true in
    let counted : c.push_line.new.self.offset ≡ length text - length here =
    omega (arith, c.push_line.ensures.offset, ap length l.invariant.1, l.invariant.2) in
    let place : line_at c.push_line.new.self.offset l.lines.text.now ≡ line_of_suffix text here =
    ap (λ n. line_at n l.lines.text.now) counted ∙ ap (line_at (length text - length here)) l.invariant.1 in (
      search rules,
      c.push_line.ensures.text ∙ l.invariant.1,
      omega (arith, counted, l.invariant.2),
      l.invariant.3 - 1,
      omega (arith, l.invariant.4),
      l.invariant.5
          ∙ ap (λ jobs. noted ++ map (line_of_suffix text) jobs)
          (jobs_job l.invariant.3 l.state found.next here found.rest.now (omega (arith, l.invariant.4)) (omega arith) is)
          ∙ noted_more (line_of_suffix text) here (job_texts_from (l.invariant.3 - 1) found.next found.rest.now) _ noted
          c.push_line.new.self.recorded.items c.in_ok-push_line.ensures.recorded place,
    )

pub steps-preserved : goal.steps-preserved
steps-preserved c =
    let l = c.steps in
    let text = c.args.lines.now.text.now in
    let noted = l.lines.recorded.items in
    let here = l.here.now in
    let found = c.in_ok-is_job.field-0 in
    let shorter : length found.rest.now < length here = c.in_ok-is_job.ensures.shorter in
    let is : step l.state here ≡ Some (false, found.next, found.rest.now) =
    c.in_ok-is_job.ensures.step ∙ ap (λ job. Some (job, found.next, found.rest.now)) c.if-is_job.false in (
      search rules,
      l.invariant.1,
      omega (arith, l.invariant.2),
      l.invariant.3 - 1,
      omega (arith, l.invariant.4),
      l.invariant.5
          ∙ ap (λ jobs. noted ++ map (line_of_suffix text) jobs)
          (jobs_other l.invariant.3 l.state found.next here found.rest.now (omega (arith, l.invariant.4)) (omega arith) is),
    )

pub returns-clause-recorded : goal.returns-clause-recorded
returns-clause-recorded c =
    let l = c.steps in
    let noted = l.lines.recorded.items in
    let line = line_of_suffix c.args.lines.now.text.now in
    let empty : length l.here.now ≡ 0 = eqb-true _ _ (sym c.is_empty.ensures ∙ c.steps-test.false) in
    sym (l.invariant.5 ∙ ap (λ jobs. noted ++ map line jobs) (jobs_end l.invariant.3 l.state l.here.now empty) ∙ append-nil noted)
