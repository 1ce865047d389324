use Rattle.std.proofs.Common.{◌∙◌, ap, arith, sym}
use Rattle.std.specs.Prelude.{is_some}
use Rattle.std.specs.FinMap as fin
use Rattle.rv_session.specs.Stoppoints.{has_byte}
use Rattle.rv_session.proofs.Looking.{any_here, any_later, any_none, any_start}
use Rattle.rv_session.proofs.stoppoints.has_byte.Goals as goal

pub loop-offset-init : goal.loop-offset-init
loop-offset-init c = any_start (fin.get c.args.bus.now.memory) c.args.range.address c.args.range.count

pub returns-then-is_some : goal.returns-then-is_some
returns-then-is_some c =
    any_here (fin.get c.args.bus.now.memory) c.args.range.address c.loop-offset.offset c.args.range.count
    (has_byte c.args.bus.now c.args.range) (omega arith)
    (ap is_some (sym c.byte.ensures) ∙ sym c.is_some.ensures ∙ c.if-is_some.true) c.loop-offset.invariant

pub loop-offset-preserved : goal.loop-offset-preserved
loop-offset-preserved c =
    any_later (fin.get c.args.bus.now.memory) c.args.range.address c.loop-offset.offset c.args.range.count
    (has_byte c.args.bus.now c.args.range) (omega arith)
    (ap is_some (sym c.byte.ensures) ∙ sym c.is_some.ensures ∙ c.if-is_some.false) c.loop-offset.invariant

pub returns : goal.returns
returns c =
    any_none (fin.get c.args.bus.now.memory) c.args.range.address c.loop-offset.offset c.args.range.count
    (has_byte c.args.bus.now c.args.range) (omega arith) c.loop-offset.invariant
