use Rattle.std.proofs.Common.{◌∙◌, ◌++◌, ap, append-nil, sym}
use Rattle.rv_calls.specs.CallsLine.{calls_text}
use Rattle.rv_rows.specs.declared_job.Job.{Job}
use Rattle.rv_calls.specs.Trace.{image_bytes, job_at}
use Rattle.rv_job_text.specs.RowReporter.{calls_lines}
use Rattle.rv_job_text.specs.TraceOptions.{optional_calls_text}
use Rattle.rv_job_text.proofs.Chains.{told_of_each}
use Rattle.rv_job_text.proofs.ReadImages.{no_calls_text, read_for, text_in_read_file}
use Rattle.rv_job_text.proofs.job_row.JobRow.push_calls.Goals as goal

pub returns-in_default : goal.returns-in_default
unfolding calls_lines
returns-in_default c = λ d.
    let none = rw (c.args.self.now.isa d, c.args.self.now.bytes d) at c.in_default.ensures in
    sym (ap (λ told. c.args.text.now.items ++ told) (no_calls_text _ _ _ none) ∙ append-nil c.args.text.now.items)

pub returns-in-Some-2 : goal.returns-in-Some-2
unfolding calls_lines
returns-in-Some-2 c =
    let told = c.args.self.now in
    let plan = told.plan.now in
    let job = λ (d : Job). job_at plan told.place d in
    let elf = c.in-Some.elf in
    let calls = c.in-Some-2.calls in
    told_of_each _ _ _ _ (λ d. calls_lines plan (job d))
    (λ d. sym (text_in_read_file (job d).isa (image_bytes plan.answers (job d)) elf.bytes.now elf.image.now
    (sym (told.bytes d) ∙ c.in-Some.ensures.1)
    (read_for _ _ _ _ (c.in-Some.ensures.0 ∙ told.isa d) elf.read) (λ image bytes. calls_text image bytes calls))
    ∙ ap (λ shown. optional_calls_text (job d).isa (image_bytes plan.answers (job d)) shown)
    (sym c.in-Some-2.is ∙ c.in_ok-calls.ensures d))
    c.push_calls_text.ensures
