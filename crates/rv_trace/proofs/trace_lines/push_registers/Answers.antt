use Rattle.std.proofs.Common.{◌<◌, ◌≤◌, length, arith}
use Rattle.rv_trace.proofs.Registers.{all_lines, more_lines}
use Rattle.rv_trace.proofs.trace_lines.push_registers.Goals as goal

pub loop-n-preserved : goal.loop-n-preserved
loop-n-preserved c =
    let h : c.loop-n.n < length c.args.values.now = let whole = c.told-values in omega arith in
    more_lines c.args.elf.now.image.now c.args.elf.now.bytes.now c.loop-n.n c.args.values.now c.loop-n.bytes.items _ _ h
    c.in_ok-push_register_line.ensures c.loop-n.invariant

pub returns : goal.returns
returns c =
    let h : length c.args.values.now ≤ c.loop-n.n = let whole = c.told-values in omega arith in
    all_lines c.args.elf.now.image.now c.args.elf.now.bytes.now c.loop-n.n c.args.values.now c.loop-n.bytes.items _ h c.loop-n.invariant
