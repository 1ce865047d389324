use Rattle.rv_list_errors.specs.FaultHeads.{fault_head}
use Rattle.rv_list_errors.specs.FaultMessages.{IsFaultLineOfText}
use Rattle.rv_list_errors.specs.Lines.{BeginsWith}
use Rattle.rv_list_errors.proofs.Heads.{begins_of_ends, head_in_list, head_without_document, told_in_list, told_without_document}
use Rattle.rv_list_errors.proofs.OneMore.{count_of_lines, lines_so}
use Rattle.rv_list_errors.proofs.faults.push_faults.Goals as goal

pub returns-in_ok-list-in-Ok : goal.returns-in_ok-list-in-Ok
returns-in_ok-list-in-Ok c =
    let file = c.args.file.now in
    let text = c.args.text.now in
    let before = c.args.bytes.now.items in
    let after = c.push_fault_lines.new.bytes.items in
    record {
      lines = count_of_lines c.push_fault_lines.result _ c.args.faults.now before after c.push_fault_lines.ensures;
      heads = lines_so c.push_fault_lines.result _ (λ fault message. BeginsWith (fault_head file text fault) message)
          c.args.faults.now before after
          (λ fault message is. begins_of_ends _ _ (fault_head file text fault) message
          (head_in_list file text _ _ _ fault c.in-Ok.ensures.ok.0 c.in-Ok.ensures.ok.1 c.in_ok-list-in-Ok.ensures.lines
          c.in_ok-list-in-Ok.ensures.names) is) c.push_fault_lines.ensures;
      explanations = lines_so c.push_fault_lines.result _ (IsFaultLineOfText file text) c.args.faults.now before after
          (λ fault message is. told_in_list file text _ _ _ _ fault message c.in-Ok.ensures.ok.0 c.in-Ok.ensures.ok.1
          c.in_ok-list-in-Ok.ensures.lines c.in_ok-list-in-Ok.ensures.names c.in_ok-list-in-Ok.ensures.jobs is)
          c.push_fault_lines.ensures;
    }

pub returns-else-is_memory : goal.returns-else-is_memory
returns-else-is_memory c =
    let file = c.args.file.now in
    let text = c.args.text.now in
    let before = c.args.bytes.now.items in
    let after = c.push_fault_lines-in-Err.new.bytes.items in
    record {
      lines = count_of_lines c.push_fault_lines-in-Err.result _ c.args.faults.now before after
          c.push_fault_lines-in-Err.ensures;
      heads = lines_so c.push_fault_lines-in-Err.result _ (λ fault message. BeginsWith (fault_head file text fault) message)
          c.args.faults.now before after
          (λ fault message is. begins_of_ends _ _ (fault_head file text fault) message
          (head_without_document file text fault (c.in-Err.ensures.refused (λ m. cc (c.if-is_memory.ensures.1 m)))) is)
          c.push_fault_lines-in-Err.ensures;
      explanations = lines_so c.push_fault_lines-in-Err.result _ (IsFaultLineOfText file text) c.args.faults.now before after
          (λ fault message is. told_without_document file text fault message
          (c.in-Err.ensures.refused (λ m. cc (c.if-is_memory.ensures.1 m))) is) c.push_fault_lines-in-Err.ensures;
    }
