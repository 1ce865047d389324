use Rattle.std.proofs.Common.{◌≡◌, ◌<◌, ◌^◌, Some, fold, take}
use Rattle.std.specs.Option.{IfSome}
use Rattle.rv_gdb_protocol.specs.Numbers.{with_hex_digit}
use Rattle.rv_gdb_protocol.proofs.number.parse_number.Given as goal

abbrev pub invariant-loop-byte : goal.invariant-loop-byte
invariant-loop-byte l = (l.value ≡ fold with_hex_digit (Some 0) (take l.byte-index l.text))
    × IfSome l.value (λ value. value < 16 ^ l.byte-index)
