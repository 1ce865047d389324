use Rattle.std.proofs.Common.{◌∙◌, refl, rules, sym}
use Rattle.rv_gdb_protocol.specs.declared.request.Stoppoint.TheVariants as trap
use Rattle.rv_session.proofs.Trapping.{set_already, set_now, too_many}
use Rattle.rv_session.proofs.stoppoints.with_break.Goals as goal

pub returns-then-has_break : goal.returns-then-has_break
returns-then-has_break c = λ bus.
    set_already c.args.stops.now c.in_ok-same.same bus (trap.Break c.args.address) refl
    (sym c.has_break.ensures ∙ c.if-has_break.true) c.in_ok-same.ensures

pub returns-then-is_full : goal.returns-then-is_full
returns-then-is_full c = λ bus.
    too_many c.args.stops.now bus (trap.Break c.args.address) refl
    (sym c.has_break.ensures ∙ c.if-has_break.false) (sym c.is_full.ensures ∙ c.if-is_full.true)

pub returns : goal.returns
returns c = λ bus.
    set_now c.args.stops.now _ bus (trap.Break c.args.address) refl
    (sym c.has_break.ensures ∙ c.if-has_break.false) (sym c.is_full.ensures ∙ c.if-is_full.false) (search rules)
