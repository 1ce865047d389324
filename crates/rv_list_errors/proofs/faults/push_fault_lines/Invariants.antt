use Rattle.std.proofs.Common.{◌++◌, take}
use Rattle.rv_list_errors.specs.FaultHeads.{location_in_view}
use Rattle.rv_list_errors.specs.JobFaults.{HasHeadAndTail, ExplainsFaultInView}
use Rattle.rv_list_errors.specs.Lines.{AppendsLineOfEach}
use Rattle.rv_list_errors.proofs.faults.push_fault_lines.Given as goal

abbrev pub invariant-loop-at : goal.invariant-loop-at
invariant-loop-at l =
    AppendsLineOfEach (λ fault message. HasHeadAndTail (ExplainsFaultInView l.view fault) (l.file ++ location_in_view l.view fault.job) message)
    (take l.at l.faults) l.initial.bytes.items l.bytes.items
