use Rattle.std.proofs.Common.{◌∙◌, None, ap}
use Rattle.rv_command.specs.Texts.{optional_text}
use Rattle.rvtest_app.proofs.WriteStops.{output_of_put}
use Rattle.rvtest_app.proofs.PutTexts.{out_told}
use Rattle.rvtest_app.proofs.Results.{OnOk-both}
use Rattle.rvtest_app.specs.CommandOutputs.{outputs_of}
use Rattle.rvtest_app.proofs.show.write_summarized_report.Goals as goal

pub returns-in-Ok-clause-written : goal.returns-in-Ok-clause-written
returns-in-Ok-clause-written g c =
    let path = g.F.Outputs.pending_path in
    let taken = g.F.File.Sink.accepted in
    let failed = g.F.File.Sink.failure_count in
    let outlets = c.in_ok-outlets.outlets in
    let junit_path = optional_text c.args.args.junit in
    let report_path = None in
    let report = c.in_ok-outlets.ensures.report in
    let junit = c.in_ok-outlets.ensures.junit in
    let same = ap g.F.Outputs.committed c.in-Ok.ensures.files_unchanged ∙ c.in_ok-outlets.ensures.nothing_committed in
    let seen = rw (
      c.use_stdout.ensures,
      out_told path taken failed _ _ outlets.report _ report,
      out_told path taken failed _ _ outlets.junit _ junit,
      c.as_slice.ensures.value,
      c.in_ok-outlets.ensures.nothing_committed,
    ) at c.in-Ok.ensures.shown in
    let out = rw (c.as_bytes.ensures.value, c.suite_name.ensures, c.report_judge.ensures)
    at (c.write_whole_files.ensures.out_written report_path junit_path (rw same report) (rw same junit)) in
    let committed = rw (c.as_bytes.ensures.value, c.suite_name.ensures, c.report_judge.ensures)
    at (c.write_whole_files.ensures.committed report_path junit_path (rw same report) (rw same junit)) in
    let errors = c.write_whole_files.ensures.errors_unchanged in
    OnOk-both c.write_whole_files.result _ _ _
    (λ p q. record {
      between = outputs_of g.F.Outputs.committed g.O.Sink.accepted g.E.Sink.accepted g.E.Sink.failure_count c.write_shown.new.destinations;
      shown_written = seen;
      out = p;
      errors_unchanged = (ap g.E.Sink.accepted errors, ap g.E.Sink.failure_count errors);
      committed = q;
    })
    out committed

pub returns-in-Ok-clause-committed_after_error : goal.returns-in-Ok-clause-committed_after_error
returns-in-Ok-clause-committed_after_error g c =
    let same = ap g.F.Outputs.committed c.in-Ok.ensures.files_unchanged ∙ c.in_ok-outlets.ensures.nothing_committed in
    rw same at (rw (c.as_bytes.ensures.value, c.suite_name.ensures, c.report_judge.ensures)
    at (c.write_whole_files.ensures.committed_after_error (optional_text c.args.args.junit) (rw same c.in_ok-outlets.ensures.junit)))

pub returns-in-Ok-clause-stopped : goal.returns-in-Ok-clause-stopped
returns-in-Ok-clause-stopped g c =
    output_of_put g.F.Outputs.pending_path g.F.File.Sink.accepted g.F.File.Sink.failure_count _ None
    (optional_text c.args.args.junit) _ _ c.write_whole_files.result c.in_ok-outlets.ensures.report
    c.in_ok-outlets.ensures.junit c.write_whole_files.ensures.stopped
