use Rattle.std.proofs.Common.{◌≡◌}
use Rattle.rv_command.specs.InvalidLines.{text_after_lines}
use Rattle.rv_command.proofs.invalid_line.text_after_lines.Given as goal

abbrev pub invariant-loop : goal.invariant-loop
invariant-loop l = l.rest ≡ text_after_lines l.counter l.text
