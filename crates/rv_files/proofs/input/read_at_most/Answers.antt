use Rattle.std.proofs.Common.{arith}
use Rattle.rv_files.proofs.Incoming.{all_read, full_read}
use Rattle.rv_files.proofs.input.read_at_most.Goals as goal

pub returns-then-branch-eq0-clause-value : goal.returns-then-branch-eq0-clause-value
returns-then-branch-eq0-clause-value g c =
    all_read c.args.limit _ _ _ c.reading.bytes.items c.read_once.new.bytes.items _ c.reading.invariant.read
    c.in_ok-read_once.ensures (omega arith)

pub returns-clause-value : goal.returns-clause-value
returns-clause-value g c = full_read c.args.limit _ _ c.reading.bytes.items c.reading.invariant.read (omega arith)
