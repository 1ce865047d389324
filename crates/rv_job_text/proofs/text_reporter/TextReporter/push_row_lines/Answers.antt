use Rattle.std.proofs.Common.{◌≡◌, ◌∙◌, ap, true, sym}
use Rattle.rv_expect.specs.Judgement.{fails, is_failing, is_unknown_failure, judgement, judge_view}
use Rattle.rv_rows.specs.Verdict.{did_run}
use Rattle.rv_job_text.specs.RowReporter.{shows_row, row_lines}
use Rattle.rv_job_text.proofs.Chains.{ended}
use Rattle.rv_job_text.proofs.text_reporter.TextReporter.push_row_lines.Goals as goal

pub returns : goal.returns
unfolding row_lines
returns c =
    let judging = judge_view c.args.self.now.judge in
    let row = c.args.row.now in
    let shows = shows_row c.args.self.now.verbosity in
    let judged = c.judgement-judgement.ensures in
    let unknown : is_unknown_failure (judgement judging row) ≡ true =
    ap is_unknown_failure (sym judged) ∙ (sym c.is_unknown_failure.ensures ∙ c.if-not-is_unknown_failure.false) in
    let told : shows (fails judging row) ≡ true =
    ap (λ j. shows (is_failing j)) (sym judged) ∙ (sym c.shows_row.ensures ∙ c.if-not-shows_row.false) in
    let runs : did_run row.ending ≡ true = sym c.did_run.ensures ∙ c.if-not-did_run.false in
    rw (told, unknown, runs) (ended _ _ _ _ _ _ c.in_ok-push_row_line.ensures c.push_run_lines.ensures)
