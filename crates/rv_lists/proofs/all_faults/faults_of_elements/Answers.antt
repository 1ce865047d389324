use Rattle.std.proofs.Common.{◌∙◌, ◌+◌, sym, arith}
use Rattle.rv_lists.specs.JobList.{names_of_jobs}
use Rattle.rv_lists.proofs.AllFaults.{faults_more, faults_end}
use Rattle.rv_lists.proofs.all_faults.faults_of_elements.Goals as goal

pub loop-at-preserved : goal.loop-at-preserved
loop-at-preserved c = (
  faults_more c.loop-at.faults.items c.add_element_or_fault.new.faults.items (c.loop-at.at + 1) (names_of_jobs c.loop-at.earlier)
      (names_of_jobs c.in_ok-earlier.earlier) c.args.elements.now c.loop-at.at c.index-elements-at.result
      c.loop-at-test.true (rw (← c.index-elements-at.is) c.in_ok-earlier.ensures.faults)
      (rw (← c.index-elements-at.is) c.in_ok-earlier.ensures.names) ∙ c.loop-at.invariant.0,
  omega (arith, c.in_ok-earlier.ensures.at_most_one_added, c.loop-at.invariant.1),
)

pub returns : goal.returns
returns c = sym (faults_end c.loop-at.faults.items (c.loop-at.at + 1) (names_of_jobs c.loop-at.earlier) c.args.elements.now
    c.loop-at.at c.loop-at-test.false) ∙ c.loop-at.invariant.0
