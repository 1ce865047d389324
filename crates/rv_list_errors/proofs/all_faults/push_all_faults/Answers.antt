use Rattle.rv_list_errors.specs.FaultHeads.{fault_head}
use Rattle.rv_list_errors.proofs.Heads.{read_document, refused_document}
use Rattle.rv_list_errors.proofs.FaultLineWriter.{head_is_path, told_in_document, told_without_document}
use Rattle.rv_list_errors.proofs.all_faults.push_all_faults.Goals as goal

pub returns-in_ok-jobs-in-Ok : goal.returns-in_ok-jobs-in-Ok
returns-in_ok-jobs-in-Ok c =
    told_in_document c.push_fault_lines.result c.args.file.now c.args.text.now _ _ c.args.faults.now
    c.args.bytes.now.items c.push_fault_lines.new.bytes.items
    (read_document c.args.text.now _ c.in-Ok.ensures.ok.0 c.in-Ok.ensures.ok.1) c.in_ok-list-in-Ok.ensures.names
    (rw c.new.ensures.text at c.push_fault_lines.ensures)

pub returns-else-is_memory : goal.returns-else-is_memory
returns-else-is_memory c =
    let refused = refused_document c.args.text.now (c.in-Err.ensures.refused (λ m. cc (c.if-is_memory.ensures.1 m))) in
    told_without_document c.push_faults.result c.args.file.now c.args.text.now
    (fault_head c.args.file.now c.args.text.now) c.args.faults.now c.args.bytes.now.items
    c.push_faults.new.bytes.items refused
    (head_is_path c.args.file.now c.args.text.now refused) c.push_faults.ensures.heads
