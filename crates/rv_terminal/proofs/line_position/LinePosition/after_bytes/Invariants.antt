use Rattle.std.proofs.Common.{◌≡◌, fold, take}
use Rattle.rv_terminal.specs.Colors.{position_after}
use Rattle.rv_terminal.proofs.line_position.LinePosition.after_bytes.Given as goal

abbrev pub invariant-loop-byte : goal.invariant-loop-byte
invariant-loop-byte l = l.position ≡ fold position_after l.fn.self (take l.byte-index l.bytes)
