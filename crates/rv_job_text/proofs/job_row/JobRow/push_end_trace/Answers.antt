use Rattle.std.proofs.Common.{◌∙◌, ◌++◌, ap, append-nil, sym}
use Rattle.rv_rows.specs.declared_job.Job.{Job}
use Rattle.rv_calls.specs.Text.{trace_text}
use Rattle.rv_calls.specs.Trace.{image_bytes, job_at}
use Rattle.rv_job_text.specs.RowReporter.{end_trace_lines}
use Rattle.rv_job_text.specs.TraceOptions.{optional_trace_text}
use Rattle.rv_job_text.proofs.Chains.{told_of_each}
use Rattle.rv_job_text.proofs.ReadImages.{no_trace_text, read_for, text_in_read_file}
use Rattle.rv_job_text.proofs.job_row.JobRow.push_end_trace.Goals as goal

pub returns-in_default : goal.returns-in_default
unfolding end_trace_lines
returns-in_default c = λ d.
    let none = rw (c.args.self.now.isa d, c.args.self.now.bytes d) at c.in_default.ensures in
    sym (ap (λ told. c.args.text.now.items ++ told) (no_trace_text _ _ _ _ none) ∙ append-nil c.args.text.now.items)

pub returns-in-Some-2 : goal.returns-in-Some-2
unfolding end_trace_lines
returns-in-Some-2 c =
    let told = c.args.self.now in
    let plan = told.plan.now in
    let job = λ (d : Job). job_at plan told.place d in
    let elf = c.in-Some.elf in
    let end = told.row.now.ending in
    let trace = c.in-Some-2.trace in
    told_of_each _ _ _ _ (λ d. end_trace_lines plan (job d) told.row.now c.args.last)
    (λ d. sym (text_in_read_file (job d).isa (image_bytes plan.answers (job d)) elf.bytes.now elf.image.now
    (sym (told.bytes d) ∙ c.in-Some.ensures.1)
    (read_for _ _ _ _ (c.in-Some.ensures.0 ∙ told.isa d) elf.read) (λ image bytes. trace_text image bytes trace end))
    ∙ ap (λ shown. optional_trace_text (job d).isa (image_bytes plan.answers (job d)) end shown)
    (sym c.in-Some-2.is ∙ c.in_ok-trace.ensures d))
    c.push_trace.ensures
