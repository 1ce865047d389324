use Rattle.std.proofs.Common.{◌<◌, Some, ap, arith, get_or, length, rules}
use Rattle.rv_gdb_protocol.specs.Numbers.{with_hex_digit}
use Rattle.rv_gdb_protocol.proofs.Digits.{digit_on_small, room}
use Rattle.rv_gdb_protocol.proofs.Folds.{fold-take}
use Rattle.rv_gdb_protocol.proofs.number.parse_number.Goals as goal

pub with_hex_digit-value-requires : goal.with_hex_digit-value-requires
with_hex_digit-value-requires c = room c.loop-byte.value c.loop-byte.byte-index (omega arith) c.loop-byte.invariant.1

pub loop-byte-preserved : goal.loop-byte-preserved
loop-byte-preserved c =
    let text = c.args.text.now in
    let at = c.loop-byte.byte-index in
    let within : at < length text = search rules in
    let byte = get_or text at 0 in (
      cc (fold-take with_hex_digit (Some 0) text at 0 within, ap (λ value. with_hex_digit value byte) c.loop-byte.invariant.0, c.with_hex_digit-value.ensures),
      rw c.with_hex_digit-value.ensures (digit_on_small c.loop-byte.value byte at c.loop-byte.invariant.1),
    )
