use Rattle.std.proofs.Common.{◌∙◌, ◌==◌, Ok, ap, arith, length, not, refl, sym, take}
use Rattle.rv_expect.specs.KnownJobs.{job_names}
use Rattle.rv_expect.specs.KnownLines.{borrowed_lines}
use Rattle.rv_expect.proofs.KnownLines.{all_read, known_named, known_nameless, number_is, passed_over, refused}
use Rattle.rv_expect.proofs.known_reader.read_lines.Goals as goal
use Rattle.rv_expect.proofs.known_reader.read_lines.Goals.{else-not-is_empty, then-not-is_empty+in_ok-known_job_of_line+in_ok-push}

pub returns-in-Some : goal.returns-in-Some
returns-in-Some c =
    let lines = c.args.lines.now in
    let place = c.loop-place.place in
    let earlier = take place (borrowed_lines lines) in
    let found = c.in_ok-fault.ensures earlier (c.as_slice.ensures.value ∙ c.loop-place.invariant.known)
    (number_is lines place (omega arith)) in
    refused lines place _ _ (omega arith) refl (job_names c.args.jobs.now) _ found c.loop-place.invariant.fault c.in-Some.fault
    c.in-Some.is

pub loop-place-preserved : goal.loop-place-preserved
loop-place-preserved c =
    let lines = c.args.lines.now in
    let place = c.loop-place.place in
    let earlier = take place (borrowed_lines lines) in
    let found = c.in_ok-fault.ensures earlier (c.as_slice.ensures.value ∙ c.loop-place.invariant.known)
    (number_is lines place (omega arith)) in
    let named = ap (λ text. length text == 0) (sym c.name_text.ensures) ∙ sym c.is_empty.ensures in
    record {
      known = elim c.if-not-is_empty.branch [
        | then-not-is_empty+in_ok-known_job_of_line+in_ok-push w ↦
            known_named lines place _ _ (omega arith) refl _ _ c.loop-place.invariant.known
            _ (ap (λ v. v.items) w.known-is ∙ w.in_ok-push.ensures.items) w.in_ok-known_job_of_line.ensures
            (ap not (named ∙ w.if-not-is_empty.true))
        | else-not-is_empty w ↦
            known_nameless lines place _ _ (omega arith) refl _ _ c.loop-place.invariant.known
            (ap (λ v. v.items) w.known-is) (ap not (named ∙ w.if-not-is_empty.false))
      ];
      fault = passed_over lines place _ _ (omega arith) refl (job_names c.args.jobs.now) _ found
          c.loop-place.invariant.fault c.in_default.is;
    }

pub returns : goal.returns
returns c = ap Ok c.new.ensures ∙ all_read c.args.lines.now c.loop-place.place (job_names c.args.jobs.now) _ c.loop-place-test.false
    c.loop-place.invariant.known c.loop-place.invariant.fault
