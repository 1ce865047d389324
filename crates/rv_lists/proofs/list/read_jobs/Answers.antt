use Rattle.std.proofs.Common.{ap, sym, Err}
use Rattle.rv_lists.specs.JobList.{jobs_of_document, job_list_of}
use Rattle.rv_lists.proofs.Steps.{read_document, refused_document}
use Rattle.rv_lists.proofs.list.read_jobs.Goals as goal

pub returns-in-Ok : goal.returns-in-Ok
unfolding job_list_of
returns-in-Ok c =
    rw (read_document c.args.bytes.now _ c.in-Ok.ensures.ok.0 c.in-Ok.ensures.ok.1) c.jobs_of_table.ensures

pub returns-else-is_memory : goal.returns-else-is_memory
unfolding jobs_of_document job_list_of
returns-else-is_memory c = λ _. rw
    (refused_document c.args.bytes.now (c.in-Err.ensures.refused (λ m. cc (c.if-is_memory.ensures.1 m))))
    (ap (λ e. Err e) (sym c.list_error-in-Err.ensures))
