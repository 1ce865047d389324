use Rattle.rv_merge.specs.MergeState.{IsMergeStateAfter}
use Rattle.rv_merge.specs.Parts.{bytes_of_texts}
use Rattle.rv_merge.proofs.merge.gather_parts.Given as goal

abbrev pub invariant-loop-at : goal.invariant-loop-at
invariant-loop-at l = IsMergeStateAfter (bytes_of_texts l.texts) l.at l.gathered
