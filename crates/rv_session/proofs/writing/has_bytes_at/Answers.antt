use Rattle.std.proofs.Common.{◌+◌, ◌<◌, ◌≤◌, ◌∙◌, ℕ, ap, get_or, length, rules, sym}
use Rattle.rv_session.specs.Memory.{has_bytes_at}
use Rattle.rv_session.proofs.Looking.{stand_all, stand_later, stand_not, stand_start, has_byte_at}
use Rattle.rv_session.proofs.writing.has_bytes_at.Goals as goal

pub loop-offset-init : goal.loop-offset-init
loop-offset-init c = stand_start c.args.bus.now c.args.address c.args.bytes.now

pub returns-then-not-has_byte_at : goal.returns-then-not-has_byte_at
returns-then-not-has_byte_at c =
    let within : c.loop-offset.offset < length c.args.bytes.now = search rules in
    stand_not c.args.bus.now c.args.address c.loop-offset.offset 0 c.args.bytes.now
    (has_bytes_at c.args.bus.now c.args.address c.args.bytes.now) within
    (ap (λ (from : ℕ). has_byte_at c.args.bus.now (from + c.loop-offset.offset) (get_or c.args.bytes.now c.loop-offset.offset 0))
    (sym c.from.ensures) ∙ sym c.has_byte_at.ensures ∙ c.if-not-has_byte_at.true)
    c.loop-offset.invariant

pub loop-offset-preserved : goal.loop-offset-preserved
loop-offset-preserved c =
    let within : c.loop-offset.offset < length c.args.bytes.now = search rules in
    stand_later c.args.bus.now c.args.address c.loop-offset.offset 0 c.args.bytes.now
    (has_bytes_at c.args.bus.now c.args.address c.args.bytes.now) within
    (ap (λ (from : ℕ). has_byte_at c.args.bus.now (from + c.loop-offset.offset) (get_or c.args.bytes.now c.loop-offset.offset 0))
    (sym c.from.ensures) ∙ sym c.has_byte_at.ensures ∙ c.if-not-has_byte_at.false)
    c.loop-offset.invariant

pub returns : goal.returns
returns c =
    let done : length c.args.bytes.now ≤ c.loop-offset.offset = search rules in
    stand_all c.args.bus.now c.args.address c.loop-offset.offset c.args.bytes.now
    (has_bytes_at c.args.bus.now c.args.address c.args.bytes.now) done c.loop-offset.invariant
