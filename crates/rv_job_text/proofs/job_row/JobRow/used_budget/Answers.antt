use Rattle.rv_calls.specs.Trace.{job_at}
use Rattle.rv_job_text.proofs.NoStarts.{no_start}
use Rattle.rv_job_text.proofs.job_row.JobRow.used_budget.Goals as goal

pub returns-in_default : goal.returns-in_default
returns-in_default c = λ d s e h.
    let none = rw (c.args.self.now.isa d, c.args.self.now.bytes d) at c.in_default.ensures in
    no_start (job_at c.args.self.now.plan.now c.args.self.now.place d) s c.args.self.now.plan.now.answers none e
