-- A refused job has no session; else it is that of its run.
use Rattle.std.proofs.Common.{◌∙◌, sym, ap}
use Rattle.std.proofs.lemmas.List.{get_or_read}
use Rattle.std.specs.Result.{result_ok}
use Rattle.rv_trace.specs.Image.{image_of}
use Rattle.rv_trace.specs.declared_job.Job.{Job}
use Rattle.rv_trace.specs.Trace.{job_at}
use Rattle.rv_gdb.proofs.Starting.{no_bytes, no_image}
use Rattle.rv_gdb.proofs.job_session.session_at.Goals as goal

pub returns-in_default : goal.returns-in_default
returns-in_default c = λ d.
    let plan = c.args.plan.now in
    no_bytes plan.answers (job_at plan c.args.place d) (sym (c.in_default.ensures d))

pub returns-in_default-2 : goal.returns-in_default-2
returns-in_default-2 c = λ d.
    let plan = c.args.plan.now in
    let job = job_at plan c.args.place d in
    let same = get_or_read plan.jobs c.args.place c.job-job.result.now c.requires c.job-job.ensures.value d in
    let none = ap (λ (j : Job). result_ok (image_of j.isa c.in-Some.bytes.now)) (sym same)
    ∙ sym c.in_ok-image.ensures.value ∙ c.in_default-2.is in
    no_image plan.answers job c.in-Some.bytes.now (sym (c.in-Some.ensures d)) none
