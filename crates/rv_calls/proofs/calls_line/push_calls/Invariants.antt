use Rattle.std.proofs.Common.{◌≡◌, ◌++◌, take, reverse}
use Rattle.std.specs.List.{flat_map}
use Rattle.rv_calls.specs.CallsLine.{call_text}
use Rattle.rv_calls.proofs.calls_line.push_calls.Given as goal

abbrev pub invariant-loop-n : goal.invariant-loop-n
invariant-loop-n l = l.bytes.items ≡ l.initial.bytes.items
    ++ flat_map (call_text l.elf.image.now l.elf.bytes.now) (take l.n (reverse l.frames))
