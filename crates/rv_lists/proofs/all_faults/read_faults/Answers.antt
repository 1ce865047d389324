use Rattle.rv_lists.specs.ListFaults.{faults_of_document, list_faults}
use Rattle.rv_lists.proofs.Steps.{read_document, refused_document}
use Rattle.rv_lists.proofs.all_faults.read_faults.Goals as goal

pub returns-in-Ok : goal.returns-in-Ok
unfolding list_faults
returns-in-Ok c =
    rw (read_document c.args.bytes.now _ c.in-Ok.ensures.ok.0 c.in-Ok.ensures.ok.1) c.faults_of_table.ensures

pub returns-else-is_memory : goal.returns-else-is_memory
unfolding faults_of_document list_faults
returns-else-is_memory c = rw
    (refused_document c.args.bytes.now (c.in-Err.ensures.refused (λ m. cc (c.if-is_memory.ensures.1 m))))
    c.single_list_fault.ensures
