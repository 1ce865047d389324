use Rattle.std.proofs.Common.{◌≡◌, [], ◌∷◌, ◌++◌}
use Rattle.std.proofs.lemmas.Result.{IfOk-weaker}
use Rattle.toml.specs.View.{view}
use Rattle.rv_lists.specs.JobList.{names_of_jobs}
use Rattle.rv_lists.specs.ListFaults.{reserved_name, with_reserved_name}
use Rattle.rv_lists.proofs.AllFaults.{good_named}
use Rattle.rv_lists.proofs.all_faults.add_element_or_fault.Goals as goal

pub returns-in-Ok-clause-names : goal.returns-in-Ok-clause-names
returns-in-Ok-clause-names c =
    let names = names_of_jobs c.args.earlier in
    IfOk-weaker c.append_job.result (λ jobs. jobs ≡ c.args.earlier ++ c.in-Ok.job ∷ [])
    (λ jobs. names_of_jobs jobs ≡ with_reserved_name names (reserved_name names (view c.args.element.now)))
    (λ jobs pushed. good_named c.args.earlier jobs c.in-Ok.job (view c.args.element.now) c.in-Ok.ensures.value pushed)
    c.append_job.ensures
