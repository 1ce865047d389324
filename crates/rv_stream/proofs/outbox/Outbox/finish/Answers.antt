-- What waits goes out, or a beginning of it.
use Rattle.std.proofs.Common.{[], append-nil, sym}
use Rattle.rv_stream.proofs.Sending.{all_out, part_out}
use Rattle.rv_stream.proofs.outbox.Outbox.finish.Goals as goal

pub returns-in-Ok-clause-begun : goal.returns-in-Ok-clause-begun
returns-in-Ok-clause-begun g c = λ text sent.
    let s = c.args.self in record {
      part = text;
      rest = [];
      whole = sym (append-nil text);
      appended = all_out g.J.StreamSpec.accepted_before (g.W.Sink.accepted s.out) g.J.StreamSpec.failure_count (g.W.Sink.failure_count s.out)
          s.buffered.items text (g.W.Sink.accepted c.put_all.new.out) s.failed c.in_default.is
          (rw c.as_slice.ensures.value at c.in-Ok.ensures.appended) sent;
    }

pub returns-clause-part : goal.returns-clause-part
returns-clause-part g c = λ text sent.
    let s = c.args.self in
    part_out g.J.StreamSpec.accepted_before (g.W.Sink.accepted s.out) g.J.StreamSpec.failure_count (g.W.Sink.failure_count s.out)
    s.buffered.items text (g.W.Sink.accepted c.put_all.new.out) s.failed c.in_default.is
    (rw c.as_slice.ensures.value at c.in-Err.ensures.prefix) sent

pub returns-clause-begun : goal.returns-clause-begun
returns-clause-begun g c = λ text sent.
    let s = c.args.self in
    part_out g.J.StreamSpec.accepted_before (g.W.Sink.accepted s.out) g.J.StreamSpec.failure_count (g.W.Sink.failure_count s.out)
    s.buffered.items text (g.W.Sink.accepted c.put_all.new.out) s.failed c.in_default.is
    (rw c.as_slice.ensures.value at c.in-Err.ensures.prefix) sent
