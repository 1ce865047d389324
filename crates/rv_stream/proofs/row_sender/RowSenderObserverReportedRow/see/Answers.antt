use Rattle.std.proofs.Common.{◌∙◌, ◌++◌, ℕ, List, ap, subst}
use Rattle.rv_counting.specs.declared_row.Row.{Row}
use Rattle.rv_stream.specs.SeenRows.{text_by_index}
use Rattle.rv_stream.specs.SentTexts.{IsSent}
use Rattle.rv_stream.proofs.Sending.{reports_more}
use Rattle.rv_stream.proofs.row_sender.RowSenderObserverReportedRow.see.Goals as goal

pub returns-in-Some-clause-seen : goal.returns-in-Some-clause-seen
returns-in-Some-clause-seen g c = λ results sent.
    let made = c.args.output.now in
    let line = g.J.StreamSpec.row_text in
    let box = c.push_text.new.self in
    subst (λ (text : List ℕ). IsSent g.J.StreamSpec.accepted_before (g.W.Sink.accepted box.out) g.J.StreamSpec.failure_count (g.W.Sink.failure_count box.out)
    box.failed box.buffered.items text)
    (ap (λ (own : ℕ → Row → List ℕ). text_by_index line results ++ own made.index made.row) c.args.self.now.line
    ∙ reports_more line results made)
    (c.push_text.ensures.sent (text_by_index line results) (rw c.in-Some.is at sent))
