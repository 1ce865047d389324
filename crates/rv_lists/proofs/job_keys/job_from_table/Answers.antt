use Rattle.std.proofs.Common.{◌∙◌, ap, sym, subst, is_some, rules}
use Rattle.toml.specs.View.{table_view}
use Rattle.rv_lists.specs.Parsing.{MatchesUnlessOutOfMemory}
use Rattle.rv_lists.specs.JobList.{job_from_table, names_of_jobs}
use Rattle.rv_lists.proofs.JobStages.{job_described}
use Rattle.rv_lists.proofs.job_keys.job_from_table.Goals as goal

pub returns-clause-value : goal.returns-clause-value
returns-clause-value c =
    let names = names_of_jobs c.args.earlier.now in
    let fresh = ap is_some (sym c.index_of_name.ensures.value) ∙ sym c.is_some.ensures ∙ c.if-is_some.false in
    let same = job_described names (table_view c.args.table.now) c.in_ok-name.name.now c.in_ok-image.image.now
    c.in_ok-budget.budget (sym c.has_unknown_job_or_region_key.ensures ∙ c.if-has_unknown_job_or_region_key.false)
    (sym c.has_wrong_type.ensures ∙ c.if-has_wrong_type.false) c.in_ok-name.ensures fresh c.in_ok-image.ensures
    (sym c.budget_from_table.ensures ∙ c.in_ok-budget.was) in
    subst (λ read. MatchesUnlessOutOfMemory c.job_from_remaining_keys.result read) (sym same) c.job_from_remaining_keys.ensures.value

pub returns-then-has_wrong_type-clause-value : goal.returns-then-has_wrong_type-clause-value
unfolding job_from_table
returns-then-has_wrong_type-clause-value c =
    rw (sym c.has_wrong_type.ensures ∙ c.if-has_wrong_type.true) (search rules)
