use Rattle.rvtest_app.proofs.Results.{IfOk-both}
use Rattle.rvtest_app.proofs.diff.diff_report_texts.Goals as goal

pub returns-clause-diff : goal.returns-clause-diff
returns-clause-diff c =
    IfOk-both c.diff_read_reports.result _ _ _
    (λ noted diff told. rw c.in_ok-new_text.was (record {
      old_report = c.in_ok-old.old;
      old_is = rw c.requested_report.ensures.partial at c.in_ok-old.ensures.read;
      new_report = c.in_ok-new.new;
      new_is = rw (c.as_slice.ensures.value, c.requested_report-2.ensures.partial) at c.in_ok-new.ensures.read;
      diff = diff;
      notes_are = told;
    })) c.diff_read_reports.ensures.diff c.diff_read_reports.ensures.notes
