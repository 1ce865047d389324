use Rattle.std.proofs.Common.{◌∙◌, ℕ, ap, arith, length-take, length-drop}
use Rattle.rv_base.specs.Counts.{one_more}
use Rattle.rv_base.proofs.Outgoing.{first_bytes, next_taken}
use Rattle.rv_base.proofs.sink.put_all.Goals as goal

pub loop-offset-preserved : goal.loop-offset-preserved
loop-offset-preserved g c = record {
  within = omega (arith, length-take {A = ℕ}, length-drop {A = ℕ}, c.in-Ok.ensures.within);
  appended = next_taken _ _ _ c.args.bytes.now c.loop-offset.offset c.in-Ok.count c.loop-offset.invariant.within
      c.loop-offset.invariant.appended c.in-Ok.ensures.taken;
  counted = c.in-Ok.ensures.counted ∙ c.loop-offset.invariant.counted;
}

pub returns-in-Err-clause-prefix : goal.returns-in-Err-clause-prefix
returns-in-Err-clause-prefix g c =
    first_bytes _ _ _ c.args.bytes.now c.loop-offset.offset c.loop-offset.invariant.appended c.in-Err.ensures.kept

pub returns-in-Err-clause-failure : goal.returns-in-Err-clause-failure
returns-in-Err-clause-failure g c = c.in-Err.ensures.failure ∙ ap one_more c.loop-offset.invariant.counted
