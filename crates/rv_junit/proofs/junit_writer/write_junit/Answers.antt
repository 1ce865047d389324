use Rattle.std.proofs.Common.{◌∙◌, ◌++◌, ap}
use Rattle.std.proofs.lemmas.Result.{err_from_is_err_and}
use Rattle.rv_stream.proofs.Public.{beginning_of_longer, ended_under_way, failed_under_way, stopped_under_way}
use Rattle.rv_job_text.specs.Judgement.{judge_view}
use Rattle.rv_junit.specs.Junit.{suite_begin_text, suite_end_text}
use Rattle.rv_junit.proofs.CaseTexts.{junit_begun, nothing_out}
use Rattle.rv_junit.proofs.junit_writer.write_junit.Goals as goal

pub returns-in_err-push_suite_begin-clause-prefix_written : goal.returns-in_err-push_suite_begin-clause-prefix_written
returns-in_err-push_suite_begin-clause-prefix_written g c =
    let error = err_from_is_err_and c.from_residual.result c.from_residual.ensures.1 in
    rw error.1 (nothing_out _ _)

pub returns-in_err-write_cases-clause-prefix_written : goal.returns-in_err-write_cases-clause-prefix_written
returns-in_err-write_cases-clause-prefix_written g c =
    let class = c.args.suite.now.name.now in
    let judging = judge_view c.args.suite.now.judge in
    let rows = c.args.cases.now.rows.now in
    let begun = ap (λ v. v.items) c.into_bytes-text.ensures.value ∙ c.in_ok-push_suite_begin.ensures
    ∙ ap (λ xs. xs ++ suite_begin_text class judging rows) c.new-begin.ensures.bytes in
    let error = err_from_is_err_and c.from_residual-in_err-write_cases.result
    c.from_residual-in_err-write_cases.ensures.1 in
    rw error.1 (beginning_of_longer _ _ _ suite_end_text _ c.in_err-write_cases.ensures.prefix_written
    (junit_begun class judging (g.T.RowReporter.line c.args.cases.now.reporter.now) c.args.cases.now.indices.now rows
    c.into_bytes-text.result.items begun))

pub returns-in_err-push_text-clause-prefix_written : goal.returns-in_err-push_text-clause-prefix_written
returns-in_err-push_text-clause-prefix_written g c =
    let class = c.args.suite.now.name.now in
    let judging = judge_view c.args.suite.now.judge in
    let rows = c.args.cases.now.rows.now in
    let begun = ap (λ v. v.items) c.into_bytes-text.ensures.value ∙ c.in_ok-push_suite_begin.ensures
    ∙ ap (λ xs. xs ++ suite_begin_text class judging rows) c.new-begin.ensures.bytes in
    let error = err_from_is_err_and c.from_residual-in_err-push_text.result
    c.from_residual-in_err-push_text.ensures.1 in
    rw error.1 (stopped_under_way _ _ _ _ suite_end_text _ c.in_ok-write_cases.ensures.partly_written
    (junit_begun class judging (g.T.RowReporter.line c.args.cases.now.reporter.now) c.args.cases.now.indices.now rows
    c.into_bytes-text.result.items begun))

pub returns-in_err-put_all-clause-prefix_written : goal.returns-in_err-put_all-clause-prefix_written
returns-in_err-put_all-clause-prefix_written g c =
    let class = c.args.suite.now.name.now in
    let judging = judge_view c.args.suite.now.judge in
    let rows = c.args.cases.now.rows.now in
    let begun = ap (λ v. v.items) c.into_bytes-text.ensures.value ∙ c.in_ok-push_suite_begin.ensures
    ∙ ap (λ xs. xs ++ suite_begin_text class judging rows) c.new-begin.ensures.bytes in
    let error = err_from_is_err_and c.from_residual-in_err-put_all.result
    c.from_residual-in_err-put_all.ensures.1 in
    rw error.1 (failed_under_way _ _ _ _ suite_end_text _ _ _ c.in_ok-write_cases.ensures.partly_written
    c.in_ok-push_text.ensures (rw c.as_slice.ensures.value at c.in_err-put_all.ensures.prefix)
    (junit_begun class judging (g.T.RowReporter.line c.args.cases.now.reporter.now) c.args.cases.now.indices.now rows
    c.into_bytes-text.result.items begun))

pub returns-clause-written : goal.returns-clause-written
returns-clause-written g c =
    let class = c.args.suite.now.name.now in
    let judging = judge_view c.args.suite.now.judge in
    let rows = c.args.cases.now.rows.now in
    let begun = ap (λ v. v.items) c.into_bytes-text.ensures.value ∙ c.in_ok-push_suite_begin.ensures
    ∙ ap (λ xs. xs ++ suite_begin_text class judging rows) c.new-begin.ensures.bytes in
    rw (junit_begun class judging (g.T.RowReporter.line c.args.cases.now.reporter.now) c.args.cases.now.indices.now rows
    c.into_bytes-text.result.items begun)
    (ended_under_way _ _ _ _ suite_end_text _ _ c.in_ok-write_cases.ensures.partly_written
    c.in_ok-push_text.ensures (rw c.as_slice.ensures.value at c.in_ok-put_all.ensures.appended))
