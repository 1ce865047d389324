use Rattle.std.proofs.Common.{◌+◌, ◌<◌, ap, arith, append_assoc, append-nil, drop, false, get_or, length, rules}
use Rattle.std.proofs.lemmas.Grind.{common_steps}
use Rattle.rv_gdb_protocol.specs.Escapes.{data_byte, data_of, is_escape}
use Rattle.rv_gdb_protocol.proofs.Data.{data_of-drop, data_of-empty}
use Rattle.rv_gdb_protocol.proofs.Folds.{fold-take}
use Rattle.rv_gdb_protocol.proofs.escapes.push_data.Goals as goal

pub loop-byte-preserved : goal.loop-byte-preserved
loop-byte-preserved c =
    let text = c.args.text.now in
    let at = c.loop-byte.byte-index in
    let behind = c.loop-byte.after_escape in
    let within : at < length text = search rules in
    let byte = get_or text at 0 in
    let rest = ap (λ next. data_of next (drop (at + 1) text)) c.in_ok-after_escape.ensures.escape in
    let next = ap (λ before. is_escape before byte) c.loop-byte.invariant.1 in (
      cc (
        data_of-drop behind text at within,
        c.loop-byte.invariant.0,
        c.in_ok-after_escape.ensures.appended,
        rest,
        append_assoc c.loop-byte.out.items (data_byte behind byte) (data_of (is_escape behind byte) (drop (at + 1) text)),
      ),
      cc (fold-take is_escape false text at 0 within, next, c.in_ok-after_escape.ensures.escape),
    )

pub returns-clause-appended : goal.returns-clause-appended
returns-clause-appended c = grind (arith, common_steps, c.loop-byte.invariant.0, data_of-empty c.loop-byte.after_escape, append-nil c.loop-byte.out.items)
