use Rattle.std.proofs.Common.{append_assoc, append-nil}
use Rattle.rv_job_text.specs.BudgetUseLine.{repetition_line}
use Rattle.rv_job_text.proofs.budget_use_line.push_repetition_line.Goals as goal

pub returns : goal.returns
unfolding repetition_line
returns c =
    let told = rw (c.from.ensures, c.period_span.ensures, c.waiting_text.ensures) at c.push_spans.ensures in
    simp (append_assoc) (simp (append-nil) at told)
