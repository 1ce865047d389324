use Rattle.std.proofs.Common.{◌∙◌, ◌++◌, ap, arith, inl, inr}
use Rattle.std.proofs.lemmas.Result.{on_ok_weaker}
use Rattle.rv_list_errors.specs.FaultHeads.{borrowed_names}
use Rattle.rv_list_errors.specs.Lines.{printable_line}
use Rattle.rv_list_errors.specs.LocatedFaults.{IsLocatedMessage, IsFaultMessageInList}
use Rattle.rv_list_errors.proofs.FaultLineWriter.{puts_one, puts_weaker}
use Rattle.rv_list_errors.proofs.all_faults.FaultLineWriter.push_fault.Goals as goal

pub returns-then-fault-eq0-clause-lines : goal.returns-then-fault-eq0-clause-lines
returns-then-fault-eq0-clause-lines c =
    let self = c.args.self.now in
    let bytes = c.args.bytes.now.items in
    on_ok_weaker c.push_message_line.result
    (λ shows. puts_one (IsFaultMessageInList self.file.now self.cursor.text.now (borrowed_names self.list.names.items) c.args.fault)
    bytes c.push_message_line.new.bytes.items c.in_ok-message.message.items
    (inl (c.if-fault-eq0.true, c.in_ok-message.ensures))
    (shows ∙ ap (λ message. bytes ++ printable_line message) c.as_slice.ensures.value))
    c.push_message_line.ensures

pub returns-clause-lines : goal.returns-clause-lines
returns-clause-lines c =
    let self = c.args.self.now in
    let names = borrowed_names self.list.names.items in
    on_ok_weaker c.push_located_faults.result
    (puts_weaker (IsLocatedMessage self.file.now self.cursor.text.now names c.args.fault.job)
    (IsFaultMessageInList self.file.now self.cursor.text.now names c.args.fault) c.args.bytes.now.items
    c.push_located_faults.new.bytes.items
    (λ message placed. inr (omega (arith, c.if-fault-eq0.false), placed)))
    c.push_located_faults.ensures.lines
