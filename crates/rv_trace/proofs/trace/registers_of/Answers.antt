use Rattle.std.proofs.Common.{◌<◌, ◌≢◌, ◌∙◌, sym, arith, length}
use Rattle.std.proofs.Common.{get_or-set_other, get_or-set_same, below_more, length-set}
use Rattle.std.proofs.lemmas.Grind.{same_number_lists}
use Rattle.rv_machine.specs.Machine.{state_of}
use Rattle.rv_trace.specs.Trace.{registers_of}
use Rattle.rv_trace.proofs.ShownSteps.{parse_register, registers_count}
use Rattle.rv_trace.proofs.trace.registers_of.Goals as goal

pub loop-n-preserved : goal.loop-n-preserved
loop-n-preserved c = record {
  whole = simp length-set c.loop-n.invariant.whole;
  read = below_more _ _
      (λ k h. let ne : k ≢ c.loop-n.n = omega arith in rw get_or-set_other (c.loop-n.invariant.read k h))
      (let lt : c.loop-n.n < length c.loop-n.registers = omega arith in rw get_or-set_same c.reg.ensures.value);
}

pub returns : goal.returns
returns c =
    let s = state_of c.args.machine.now in
    same_number_lists c.loop-n.registers (registers_of s) (c.loop-n.invariant.whole ∙ sym (registers_count s))
    (λ k h. let whole = c.loop-n.invariant.whole in
    c.loop-n.invariant.read k (omega arith) ∙ sym (parse_register s k (omega arith)))
