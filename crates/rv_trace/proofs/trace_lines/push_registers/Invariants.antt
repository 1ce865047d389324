use Rattle.std.proofs.Common.{◌≡◌, ◌++◌, drop}
use Rattle.rv_trace.specs.Text.{register_lines}
use Rattle.rv_trace.proofs.trace_lines.push_registers.Given as goal

abbrev pub invariant-loop-n : goal.invariant-loop-n
invariant-loop-n l = l.bytes.items ++ register_lines l.elf.image.now l.elf.bytes.now l.n (drop l.n l.values)
    ≡ l.initial.bytes.items ++ register_lines l.elf.image.now l.elf.bytes.now 0 l.values
