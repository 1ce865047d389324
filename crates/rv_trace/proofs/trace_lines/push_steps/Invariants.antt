use Rattle.std.proofs.Common.{◌≡◌, ◌++◌, take}
use Rattle.std.specs.List.{flat_map}
use Rattle.rv_trace.specs.Text.{step_line}
use Rattle.rv_trace.proofs.trace_lines.push_steps.Given as goal

abbrev pub invariant-loop-step : goal.invariant-loop-step
invariant-loop-step l = l.bytes.items
    ≡ l.initial.bytes.items ++ flat_map (step_line l.elf.image.now l.elf.bytes.now) (take l.step-index l.steps)
