use Rattle.rv_list_errors.specs.NearNames.{Adds}
use Rattle.rv_list_errors.specs.Explanation.{first_fault_kinds_text}
use Rattle.rv_list_errors.proofs.explanations.push_fault_kinds.Given as goal

abbrev pub invariant-loop-index : goal.invariant-loop-index
invariant-loop-index l = Adds l.initial.message l.message (first_fault_kinds_text l.index)
