use Rattle.std.proofs.Common.{◌<◌, ap, length, refl, rules, ◌∙◌}
use Rattle.rv_gdb_protocol.specs.ReaderStates.{option_list}
use Rattle.rv_gdb_protocol.proofs.Hearing.{frame_at_last, heard_at_last, incoming_in-empty}
use Rattle.rv_gdb_protocol.proofs.reader.Reader.receive.Goals as goal

pub loop-at-init : goal.loop-at-init
loop-at-init c = (incoming_in-empty c.args.self.now, refl)

pub returns-in-Some-clause-item : goal.returns-in-Some-clause-item
returns-in-Some-clause-item c =
    let within : c.loop-at.at < length c.args.bytes.now = search rules in
    heard_at_last c.args.self.now c.loop-at.self c.args.bytes.now c.loop-at.at c.in_ok-item.field-0 within
    c.loop-at.invariant.0 c.loop-at.invariant.1 c.in_ok-item.ensures.item
    ∙ ap option_list c.in-Some.is

pub loop-at-preserved : goal.loop-at-preserved
loop-at-preserved c =
    let within : c.loop-at.at < length c.args.bytes.now = search rules in (
      heard_at_last c.args.self.now c.loop-at.self c.args.bytes.now c.loop-at.at c.in_ok-item.field-0 within
          c.loop-at.invariant.0 c.loop-at.invariant.1 c.in_ok-item.ensures.item
          ∙ ap option_list c.in_default.is,
      frame_at_last c.args.self.now c.loop-at.self c.receive_byte.new.self c.args.bytes.now c.loop-at.at within
          c.loop-at.invariant.1 c.in_ok-item.ensures.state,
    )
