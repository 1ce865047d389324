-- The rows so far are reported.
use Rattle.std.proofs.Common.{◌≡◌, ◌+◌, ◌++◌, length}
use Rattle.std.specs.Vec.Iter.{into_iter_items, into_iter_len}
use Rattle.rv_stream.proofs.Ranges.{AreReportedTo}
use Rattle.rv_stream.proofs.reported_range.CountedRangeWork.reported_rows.Given as goal

abbrev pub invariant-loop-row : goal.invariant-loop-row
invariant-loop-row g l = record {
  reported : AreReportedTo (g.T.RowReporter.line l.self.reporter.now) l.self.batch.now l.fn.range (length l.yielded) l.reported.items;
  number : l.number ≡ l.fn.range.begin + length l.yielded;
  front : l.yielded ++ into_iter_items l.row-iterator ≡ into_iter_items l.initial.row-iterator;
  left : into_iter_len l.row-iterator ≡ length (into_iter_items l.row-iterator);
}
