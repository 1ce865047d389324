use Rattle.std.proofs.Common.{slice_index_or, subst}
use Rattle.rv_job_text.specs.BudgetUseLine.{IsBudgetUseOfRow}
use Rattle.rv_rows.specs.declared_row.Row.{Row}
use Rattle.rvtest_app.proofs.explain.explain_planned_job.Goals as goal

pub returns-clause-text : goal.returns-clause-text
returns-clause-text c =
    let plan = c.args.plan.now in
    record {
      budget_use = c.in_ok-budget_use.budget_use;
      is_budget_use = λ d. subst (λ (r : Row). IsBudgetUseOfRow plan (slice_index_or plan.jobs c.args.index d) r
          c.in_ok-budget_use.budget_use) (c.in_ok-row.ensures d) (c.in_ok-budget_use.ensures d);
      explanation = λ d. rw (c.new-text.ensures.items, c.in_ok-row.ensures d, c.with_rule.ensures)
          at (c.in_ok-push_job_explanation.ensures d);
    }
