use Rattle.std.proofs.Common.{◌≡◌, ◌≤◌, ◌-◌, take, length}
use Rattle.std.specs.Io.KnownBytes.{Appends}
use Rattle.rv_base.proofs.sink.put_all.Given as goal

abbrev pub invariant-loop-offset : goal.invariant-loop-offset
invariant-loop-offset g l = record {
  within : l.offset ≤ length l.bytes;
  appended : Appends (g.W.Sink.accepted l.initial.out) (g.W.Sink.accepted l.out) (take l.offset l.bytes);
  counted : g.W.Sink.failure_count l.out ≡ g.W.Sink.failure_count l.initial.out;
}

abbrev pub decreases-loop-offset : goal.decreases-loop-offset
decreases-loop-offset g l = length l.bytes - l.offset
