use Rattle.std.proofs.Common.{length}
use Rattle.rv_counting.specs.BatchRanges.{range_at}
use Rattle.rv_stream.specs.ReportedRanges.{IsReportedRange}
use Rattle.rv_stream.proofs.counted_stream.stream_counted_rows.Given as goal

abbrev pub ghosts-run_jobs : goal.ghosts-run_jobs
ghosts-run_jobs g a =
    let work = a.work.now in record {
      is_result = λ n range. IsReportedRange (g.T.RowReporter.line work.reporter.now) work.batch.now (range_at work.ranges.now n) range;
      jobs = length work.ranges.now;
      group = 1;
    }
