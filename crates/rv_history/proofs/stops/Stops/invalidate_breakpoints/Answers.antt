use Rattle.std.proofs.Common.{◌∙◌}
use Rattle.rv_history.proofs.Between.{asleep_more}
use Rattle.rv_history.proofs.stops.Stops.invalidate_breakpoints.Goals as goal

pub loop-address-preserved : goal.loop-address-preserved
loop-address-preserved c = record {
  state = c.invalidate.ensures.state ∙ c.loop-address.invariant.state;
  invalidated = λ pc outcome is.
      asleep_more c.as_slice-address-items.result.now c.loop-address.address-index 0 pc c.loop-address.machine.kept
      c.invalidate.new.self.kept c.loop-address-test.true c.invalidate.ensures.none_becomes_valid c.invalidate.ensures.invalid
      (c.loop-address.invariant.invalidated pc) outcome is;
}
