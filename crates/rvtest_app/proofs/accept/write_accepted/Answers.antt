use Rattle.std.proofs.Common.{inl, inr, refl}
use Rattle.std.proofs.KnownBytes.{Appends-trans}
use Rattle.std.proofs.lemmas.Result.{err_from_is_err_and}
use Rattle.rvtest_app.specs.AcceptStops.{IsUnverifiedStop, IsFileNotCreatedStop, IsFileNotWrittenStop}
use Rattle.rvtest_app.proofs.AcceptStops.{files_stop}
use Rattle.rvtest_app.proofs.accept.write_accepted.Goals as goal

pub returns-then-args-clause-written : goal.returns-then-args-clause-written
returns-then-args-clause-written g c = rw c.if-args.true (record {
  summary = record {
    list = c.args.list.now;
    runs = c.as_slice.result;
    golden_texts = c.as_slice-2.result;
    files = c.as_slice-3.result;
    new = record { ref_ptr = c.args.changes.ref_ptr; now = c.args.changes.now.new };
  };
  parts = (refl, c.as_slice.ensures.value, c.as_slice-2.ensures.value, c.as_slice-3.ensures.value, refl);
  written = (
    rw (c.skipped_count.ensures, c.changed_count.ensures) at c.accept_status.ensures.value,
    (Appends-trans _ _ _ _ _ c.in_ok-write_lines.ensures.written c.in_ok-write_count_line.ensures.written, refl, refl, refl),
  );
})

pub returns-clause-written : goal.returns-clause-written
returns-clause-written g c = rw c.if-args.false (record {
  summary = record {
    list = c.args.list.now;
    runs = c.as_slice.result;
    golden_texts = c.as_slice-2.result;
    files = c.as_slice-3.result;
    new = record { ref_ptr = c.args.changes.ref_ptr; now = c.args.changes.now.new };
  };
  parts = (refl, c.as_slice.ensures.value, c.as_slice-2.ensures.value, c.as_slice-3.ensures.value, refl);
  written = (
    rw c.skipped_count-2.ensures at c.accept_status-2.ensures.value,
    Appends-trans _ _ _ _ _ c.in_ok-write_lines.ensures.written c.in_ok-write_count_line-2.ensures.written,
    refl,
    refl,
    c.in_ok-write_accepted_files.ensures.committed,
  );
})

pub returns-in_err-write_accepted_files-clause-stopped : goal.returns-in_err-write_accepted_files-clause-stopped
returns-in_err-write_accepted_files-clause-stopped g c =
    let is = err_from_is_err_and c.from_residual-in_err-write_accepted_files.result
    c.from_residual-in_err-write_accepted_files.ensures.1 in
    rw (is.1, is.2)
    (inr (inr (
      c.if-args.false,
      files_stop IsFileNotCreatedStop (IsFileNotWrittenStop (g.D.Inputs.contents c.args.host.now.inputs.now))
          c.args.list.now.path.now c.args.changes.now.files.items _ (λ path made. inl made)
          (rw c.as_slice-3.ensures.value at c.in_err-write_accepted_files.ensures.stopped),
    )))

pub returns-in_err-check_written_files-clause-stopped : goal.returns-in_err-check_written_files-clause-stopped
returns-in_err-check_written_files-clause-stopped g c =
    let is = err_from_is_err_and c.from_residual-in_err-check_written_files.result
    c.from_residual-in_err-check_written_files.ensures.1 in
    rw (is.1, is.2)
    (inr (inr (
      c.if-args.false,
      files_stop (IsUnverifiedStop (g.D.Inputs.contents c.args.host.now.inputs.now))
          (IsFileNotWrittenStop (g.D.Inputs.contents c.args.host.now.inputs.now)) c.args.list.now.path.now c.args.changes.now.files.items _
          (λ path checked. inr checked)
          (rw c.as_slice-3.ensures.value at c.in_err-check_written_files.ensures),
    )))

pub returns-in_err-check_files_are_unchanged-clause-stopped : goal.returns-in_err-check_files_are_unchanged-clause-stopped
returns-in_err-check_files_are_unchanged-clause-stopped g c =
    let is = err_from_is_err_and c.from_residual-in_err-check_files_are_unchanged.result
    c.from_residual-in_err-check_files_are_unchanged.ensures.1 in
    rw (is.1, is.2)
    (inr (inr (
      c.if-args.false,
      files_stop (IsUnverifiedStop (g.D.Inputs.contents c.args.host.now.inputs.now))
          (IsFileNotWrittenStop (g.D.Inputs.contents c.args.host.now.inputs.now)) c.args.list.now.path.now c.args.changes.now.files.items _
          (λ path checked. inr checked)
          (rw c.as_slice-3.ensures.value at c.in_err-check_files_are_unchanged.ensures),
    )))
