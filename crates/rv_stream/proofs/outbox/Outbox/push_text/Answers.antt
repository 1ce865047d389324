-- One text more waits.
use Rattle.rv_stream.proofs.Sending.{one_lacks, one_waits}
use Rattle.rv_stream.proofs.outbox.Outbox.push_text.Goals as goal

pub returns-in-Ok-clause-sent : goal.returns-in-Ok-clause-sent
returns-in-Ok-clause-sent g c = λ text sent.
    let s = c.args.self.now in
    let made = c.args.made.now in
    one_waits g.J.StreamSpec.accepted_before (g.W.Sink.accepted s.out) g.J.StreamSpec.failure_count (g.W.Sink.failure_count s.out)
    s.buffered.items text s.failed (g.T.RowReporter.line c.args.reporter.now made.index made.row) c.push_row_text.new.text.items
    c.requires c.in-Ok.ensures sent

pub returns-in-Err-clause-sent : goal.returns-in-Err-clause-sent
returns-in-Err-clause-sent g c = λ text sent.
    let s = c.args.self.now in
    let made = c.args.made.now in
    one_lacks g.J.StreamSpec.accepted_before (g.W.Sink.accepted s.out) g.J.StreamSpec.failure_count (g.W.Sink.failure_count s.out)
    s.buffered.items text s.failed (g.T.RowReporter.line c.args.reporter.now made.index made.row) c.push_row_text.new.text.items
    c.requires sent
