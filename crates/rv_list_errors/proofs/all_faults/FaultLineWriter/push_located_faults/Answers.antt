use Rattle.std.proofs.Common.{◌∙◌, ◌++◌, ap, rules}
use Rattle.rv_list_errors.specs.FaultHeads.{borrowed_names}
use Rattle.rv_list_errors.specs.Lines.{printable_line}
use Rattle.rv_list_errors.specs.LocatedFaults.{IsLocatedMessage}
use Rattle.rv_list_errors.proofs.FaultLineWriter.{puts_more}
use Rattle.rv_list_errors.proofs.all_faults.FaultLineWriter.push_located_faults.Goals as goal

pub loop-fault-preserved : goal.loop-fault-preserved
loop-fault-preserved c =
    let self = c.args.self.now in
    let l = c.loop-fault in
    record {
      file = search rules;
      list = search rules;
      text = search rules;
      puts = puts_more
          (IsLocatedMessage self.file.now self.cursor.text.now (borrowed_names self.list.names.items) c.args.number)
          l.fault-index c.args.bytes.now.items l.bytes.items c.push_message_line.new.bytes.items c.in_ok-message.message.items
          l.invariant.puts
          (c.fault-item.result.offset, rw (l.invariant.file, l.invariant.list, l.invariant.text) at c.in_ok-message.ensures.message)
          (c.in_ok-push_message_line.ensures ∙ ap (λ message. l.bytes.items ++ printable_line message) c.as_slice.ensures.value);
    }
