use Rattle.rv_lists.proofs.AllFaults.{first_fault}
use Rattle.rv_lists.proofs.all_faults.first_fault_refuses_a_list.Goals as goal

pub returns : goal.returns
returns c = first_fault
