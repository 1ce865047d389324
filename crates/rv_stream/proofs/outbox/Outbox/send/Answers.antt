-- What waits goes out.
use Rattle.rv_stream.proofs.Sending.{all_went, part_went}
use Rattle.rv_stream.proofs.outbox.Outbox.send.Goals as goal

pub returns-in-Ok-clause-sent : goal.returns-in-Ok-clause-sent
returns-in-Ok-clause-sent g c = λ text sent.
    let s = c.args.self.now in
    all_went g.J.StreamSpec.accepted_before (g.W.Sink.accepted s.out) g.J.StreamSpec.failure_count (g.W.Sink.failure_count s.out)
    s.buffered.items text s.failed (g.W.Sink.accepted c.put_all.new.out) (g.W.Sink.failure_count c.put_all.new.out) c.clear.new.self.items
    c.requires c.clear.ensures.items (rw c.as_slice.ensures.value at c.in-Ok.ensures.appended) c.in-Ok.ensures.no_failures sent

pub returns-in-Err-clause-sent : goal.returns-in-Err-clause-sent
returns-in-Err-clause-sent g c = λ text sent.
    let s = c.args.self.now in
    part_went g.J.StreamSpec.accepted_before (g.W.Sink.accepted s.out) g.J.StreamSpec.failure_count (g.W.Sink.failure_count s.out)
    s.buffered.items text s.failed (g.W.Sink.accepted c.put_all.new.out) (g.W.Sink.failure_count c.put_all.new.out) s.buffered.items
    c.requires (rw c.as_slice.ensures.value at c.in-Err.ensures.prefix) c.in-Err.ensures.failure sent
