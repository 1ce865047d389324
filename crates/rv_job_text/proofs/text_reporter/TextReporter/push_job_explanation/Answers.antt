use Rattle.std.proofs.Common.{◌≡◌, ◌∙◌, sym, true}
use Rattle.rv_rows.specs.Verdict.{did_run}
use Rattle.rv_job_text.specs.RowReporter.{explanation_text}
use Rattle.rv_job_text.proofs.Chains.{ended}
use Rattle.rv_job_text.proofs.text_reporter.TextReporter.push_job_explanation.Goals as goal

pub returns : goal.returns
unfolding explanation_text
returns c =
    let runs : did_run c.args.row.now.ending ≡ true = sym c.did_run.ensures ∙ c.if-not-did_run.false in
    rw runs (ended _ _ _ _ _ _ c.in_ok-push_row_line.ensures c.push_run_explanation.ensures)
