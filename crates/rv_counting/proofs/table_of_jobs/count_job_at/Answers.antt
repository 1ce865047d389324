-- A refused job is no run.
use Rattle.std.proofs.Common.{◌∙◌, sym, ap}
use Rattle.std.proofs.lemmas.List.{get_or_read}
use Rattle.std.specs.Result.{result_ok}
use Rattle.rv_trace.specs.Image.{image_of}
use Rattle.rv_trace.specs.declared_job.Job.{Job}
use Rattle.rv_trace.specs.Trace.{job_at}
use Rattle.rv_counting.proofs.RunCounts.{refused_job}
use Rattle.rv_counting.proofs.Starts.{no_bytes, no_image}
use Rattle.rv_counting.proofs.table_of_jobs.count_job_at.Goals as goal

pub returns-in_default-clause-counted : goal.returns-in_default-clause-counted
returns-in_default-clause-counted c = λ d.
    let plan = c.args.plan.now in
    let job = job_at plan c.args.index d in
    refused_job plan.results job c.args.counter.now c.requires.ready (λ s start. no_bytes job s plan.results (sym (c.in_default.ensures d)) start)

pub returns-in_default-2-clause-counted : goal.returns-in_default-2-clause-counted
returns-in_default-2-clause-counted c = λ d.
    let plan = c.args.plan.now in
    let job = job_at plan c.args.index d in
    let same = get_or_read plan.jobs c.args.index c.job.result.now c.requires.within c.job.ensures.value d in
    let none = ap (λ (j : Job). result_ok (image_of j.isa c.in-Some.bytes.now)) (sym same)
    ∙ sym c.in_ok-image.ensures.value ∙ c.in_default-2.is in
    refused_job plan.results job c.args.counter.now c.requires.ready
    (λ s start. no_image job s plan.results c.in-Some.bytes.now (sym (c.in-Some.ensures d)) none start)
