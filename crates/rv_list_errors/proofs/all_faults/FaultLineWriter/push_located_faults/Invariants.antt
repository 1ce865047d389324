use Rattle.std.proofs.Common.{◌≡◌}
use Rattle.rv_list_errors.specs.FaultHeads.{borrowed_names}
use Rattle.rv_list_errors.specs.LocatedFaults.{IsLocatedMessage}
use Rattle.rv_list_errors.proofs.FaultLineWriter.{PutsSo}
use Rattle.rv_list_errors.proofs.all_faults.FaultLineWriter.push_located_faults.Given as goal

abbrev pub invariant-loop-fault : goal.invariant-loop-fault
invariant-loop-fault l = record {
  file : l.self.file ≡ l.initial.self.file;
  list : l.self.list ≡ l.initial.self.list;
  text : l.self.cursor.text.now ≡ l.initial.self.cursor.text.now;
  puts : PutsSo (IsLocatedMessage l.initial.self.file.now l.initial.self.cursor.text.now
      (borrowed_names l.initial.self.list.names.items) l.number) l.fault-index l.initial.bytes.items l.bytes.items;
}
