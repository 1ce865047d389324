use Rattle.std.proofs.Common.{◌≡◌, ◌∙◌, ℕ, List, [], ap, arith, inl, inr, length, subst, sym, take}
use Rattle.std.proofs.lemmas.List.{length-take}
use Rattle.std.proofs.lemmas.Result.{err_from_is_err_and}
use Rattle.rv_command.specs.Texts.{optional_text}
use Rattle.rv_job_text.specs.RowReporter.{reporter_of}
use Rattle.rv_rows.specs.declared_row.Row.{Row}
use Rattle.rvtest_app.proofs.CountedRuns.{part_of_counts, part_of_rows, placed_of_shown, run_put_where_told, unput_counts, untold}
use Rattle.rvtest_app.proofs.PutTexts.{path_told}
use Rattle.rvtest_app.proofs.Results.{OnErr-from}
use Rattle.rvtest_app.proofs.RowSinks.{lines_of_first}
use Rattle.rvtest_app.specs.CommandOutputs.{outputs_of, with_committed_if_reported}
use Rattle.rvtest_app.specs.FailureLines.{failure_lines}
use Rattle.rvtest_app.specs.IntoReports.{run_report_path, streamed_rows}
use Rattle.rvtest_app.specs.Outlets.{HasReceived}
use Rattle.rvtest_app.specs.Runs.{shown_indices}
use Rattle.rvtest_app.proofs.run.ListRun.write_all_files.Goals as goal

pub write_run_files-requires-clause-same_length : goal.write_run_files-requires-clause-same_length
write_run_files-requires-clause-same_length g c κs within =
    omega (
      arith,
      c.requires.row_count,
      ap length c.first_jobs-first.ensures.indices,
      ap length c.as_slice.ensures,
      length-take (length c.as_slice.result.now) c.args.planned.now.indices.now,
    )

pub write_run_files-requires-clause-texts : goal.write_run_files-requires-clause-texts
write_run_files-requires-clause-texts g c κs within =
    rw c.first_jobs-first.ensures.reporter
    (lines_of_first (failure_lines (reporter_of c.args.planned.now.reporter.now)) c.args.planned.now.indices.now
    c.first_jobs-first.result.indices.now c.args.run.rows c.args.texts.items
    (c.first_jobs-first.ensures.indices ∙ ap (λ (rows : List Row). take (length rows) c.args.planned.now.indices.now) c.as_slice.ensures)
    c.requires.texts)

pub write_counts-requires-clause-table : goal.write_counts-requires-clause-table
write_counts-requires-clause-table g c κs within =
    let planned = c.args.planned.now in
    let firsts : c.first_jobs-first.result.indices.now ≡ shown_indices planned.indices.now c.args.run.rows =
    c.first_jobs-first.ensures.indices ∙ ap (λ (rows : List Row). take (length rows) planned.indices.now) c.as_slice.ensures in
    rw (sym c.first_jobs-first.ensures.reporter, sym firsts) at c.requires.table

pub write_counts-requires-clause-open : goal.write_counts-requires-clause-open
write_counts-requires-clause-open g c κs within =
    let path = optional_text c.args.self.now.args.now.counts in (
      path,
      untold g.F.Outputs.pending_path g.F.File.Sink.accepted g.F.File.Sink.failure_count (g.F.Outputs.committed c.args.destinations.now.files) path
          c.args.outlets.counts [] c.requires.received.counts,
    )

pub returns-in_ok-write_counts-in-Ok-clause-written : goal.returns-in_ok-write_counts-in-Ok-clause-written
returns-in_ok-write_counts-in-Ok-clause-written g c = λ before shown.
    let args = c.args.self.now.args.now in
    let reporter = c.args.planned.now.reporter.now in
    let indices = c.args.planned.now.indices.now in
    let report_path = run_report_path args in
    let junit_path = optional_text args.junit in
    let firsts : c.first_jobs-first.result.indices.now ≡ shown_indices indices c.args.run.rows =
    c.first_jobs-first.ensures.indices ∙ ap (λ (rows : List Row). take (length rows) indices) c.as_slice.ensures in
    let told = c.first_jobs-first.ensures.reporter in
    let files = c.in-Ok.ensures in
    let start = outputs_of g.F.Outputs.committed g.O.Sink.accepted g.E.Sink.accepted g.E.Sink.failure_count c.args.destinations.now in
    let after = outputs_of g.F.Outputs.committed g.O.Sink.accepted g.E.Sink.accepted g.E.Sink.failure_count c.write_run_files.new.destinations in
    let report = subst (λ (ps : List ℕ). HasReceived g.F.Outputs.pending_path g.F.File.Sink.accepted g.F.File.Sink.failure_count
    (g.F.Outputs.committed c.args.destinations.now.files) report_path (streamed_rows c.args.context.old ps c.args.run.rows) c.args.outlets.report)
    (sym firsts) c.requires.received.report in
    let same = placed_of_shown _ _ before start shown in
    record {
      between = with_committed_if_reported before.committed after;
      rows_written = run_put_where_told args (reporter_of reporter) indices c.args.context.shard c.args.context.old c.args.run.rows before after
          (record {
            between = start;
            shown_written = shown;
            out = rw (told, firsts) at (files.out_written report_path junit_path report c.requires.received.junit);
            errors_unchanged = (ap g.E.Sink.accepted files.errors_unchanged, ap g.E.Sink.failure_count files.errors_unchanged);
            committed = rw (told, firsts) at (files.committed report_path junit_path report c.requires.received.junit);
          });
      counts_written = rw (told, firsts) at (c.in_ok-write_counts-in-Ok.ensures.counts_written (optional_text args.counts) before.committed
          (rw same at c.requires.received.counts));
    }

pub returns-in_err-write_counts-in-Ok-clause-committed_after_error : goal.returns-in_err-write_counts-in-Ok-clause-committed_after_error
returns-in_err-write_counts-in-Ok-clause-committed_after_error g c =
    let args = c.args.self.now.args.now in
    let indices = c.args.planned.now.indices.now in
    let report_path = run_report_path args in
    let junit_path = optional_text args.junit in
    let firsts : c.first_jobs-first.result.indices.now ≡ shown_indices indices c.args.run.rows =
    c.first_jobs-first.ensures.indices ∙ ap (λ (rows : List Row). take (length rows) indices) c.as_slice.ensures in
    let report = subst (λ (ps : List ℕ). HasReceived g.F.Outputs.pending_path g.F.File.Sink.accepted g.F.File.Sink.failure_count
    (g.F.Outputs.committed c.args.destinations.now.files) report_path (streamed_rows c.args.context.old ps c.args.run.rows) c.args.outlets.report)
    (sym firsts) c.requires.received.report in
    let files = rw (c.first_jobs-first.ensures.reporter, firsts)
    at (c.in-Ok.ensures.committed report_path junit_path report c.requires.received.junit) in
    OnErr-from c.from_residual.result _
    (part_of_counts args (reporter_of c.args.planned.now.reporter.now) indices c.args.context.shard c.args.context.old c.args.run.rows _ _ _
    (c.in_err-write_counts-in-Ok.ensures.path_given (optional_text args.counts) (g.F.Outputs.committed c.args.destinations.now.files) c.requires.received.counts)
    files c.in_err-write_counts-in-Ok.ensures.nothing_committed)

pub returns-in_err-write_counts-in-Ok-clause-stopped : goal.returns-in_err-write_counts-in-Ok-clause-stopped
returns-in_err-write_counts-in-Ok-clause-stopped g c =
    let is = err_from_is_err_and c.from_residual.result c.from_residual.ensures.1 in
    let path = optional_text c.args.self.now.args.now.counts in
    let told = path_told g.F.Outputs.pending_path g.F.File.Sink.accepted g.F.File.Sink.failure_count _ path c.args.outlets.counts []
    c.requires.received.counts in
    rw (is.1, is.2) (unput_counts c.args.self.now.args.now _ (rw told at c.in_err-write_counts-in-Ok.ensures.stopped))

pub returns-in-Err-clause-committed_after_error : goal.returns-in-Err-clause-committed_after_error
returns-in-Err-clause-committed_after_error g c =
    let args = c.args.self.now.args.now in
    let firsts : c.first_jobs-first.result.indices.now ≡ shown_indices c.args.planned.now.indices.now c.args.run.rows =
    c.first_jobs-first.ensures.indices
    ∙ ap (λ (rows : List Row). take (length rows) c.args.planned.now.indices.now) c.as_slice.ensures in
    rw c.abandon_outlet.ensures
    (part_of_rows args (reporter_of c.args.planned.now.reporter.now) c.args.planned.now.indices.now c.args.context.shard c.args.context.old
    c.args.run.rows _ _
    (rw (c.first_jobs-first.ensures.reporter, firsts) at (c.in-Err.ensures.committed_after_error (optional_text args.junit) c.requires.received.junit)))

pub returns-in-Err-clause-stopped : goal.returns-in-Err-clause-stopped
returns-in-Err-clause-stopped g c =
    let args = c.args.self.now.args.now in
    let report_path = run_report_path args in
    let junit_path = optional_text args.junit in
    let report = path_told g.F.Outputs.pending_path g.F.File.Sink.accepted g.F.File.Sink.failure_count _ report_path c.args.outlets.report _
    c.requires.received.report in
    let junit = path_told g.F.Outputs.pending_path g.F.File.Sink.accepted g.F.File.Sink.failure_count _ junit_path c.args.outlets.junit []
    c.requires.received.junit in
    inl (inr (rw (report, junit) at c.in-Err.ensures.stopped))
