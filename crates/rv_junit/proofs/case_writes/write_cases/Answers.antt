use Rattle.std.proofs.Common.{◌∙◌, ◌+◌, ◌<◌, ◌++◌, ◌∷◌, [], ℕ, List, length, drop, get_or, refl, subst, take, arith}
use Rattle.std.proofs.lemmas.List.{get_or_default, take_all}
use Rattle.std.proofs.lemmas.Result.{err_from_is_err_and}
use Rattle.std.specs.List.{concat}
use Rattle.rv_stream.proofs.Public.{beginning_of_longer, failed_under_way, more_under_way, nothing_under_way}
use Rattle.rv_stream.proofs.Public.{stopped_under_way}
use Rattle.rv_job_text.specs.Judgement.{judge_view}
use Rattle.rv_junit.specs.Junit.{case_text}
use Rattle.rv_stream.specs.Sinks.{IsPartlyWritten}
use Rattle.rv_stream.specs.declared_row.Row.{Row}
use Rattle.rv_stream.proofs.Public.{told_behind, told_none, told_rest}
use Rattle.rv_stream.specs.Streams.{row_texts, joined_row_texts}
use Rattle.rv_junit.proofs.case_writes.write_cases.Goals as goal

some_row : (rows : List Row) (i : ℕ) → i < length rows → Row
some_row [] i lt = absurd (omega (arith, lt))
some_row (row ∷ rows) i lt = row

pub loop-i-init : goal.loop-i-init
loop-i-init g c =
    let line = case_text c.args.suite.now.name.now (judge_view c.args.suite.now.judge) (g.T.RowReporter.line c.args.cases.now.reporter.now) in
    let text = c.args.text.now.items in
    let indices = c.args.cases.now.indices.now in
    let rows = c.args.cases.now.rows.now in
    record {
      partly_written = nothing_under_way (g.W.Sink.accepted c.args.out.now) text (text ++ joined_row_texts line indices (take 0 rows))
          (told_none line text indices rows);
      counted = refl;
    }

pub returns-in_err-push_case-clause-prefix_written : goal.returns-in_err-push_case-clause-prefix_written
returns-in_err-push_case-clause-prefix_written g c =
    let error = err_from_is_err_and c.from_residual.result c.from_residual.ensures.1 in
    let line = case_text c.args.suite.now.name.now (judge_view c.args.suite.now.judge) (g.T.RowReporter.line c.args.cases.now.reporter.now) in
    let text = c.args.text.now.items in
    let indices = c.args.cases.now.indices.now in
    let rows = c.args.cases.now.rows.now in
    let i = c.loop-i.i in
    rw error.1 (stopped_under_way (g.W.Sink.accepted c.args.out.now) (g.W.Sink.accepted c.loop-i.out) c.loop-i.text.items
    (text ++ joined_row_texts line indices (take i rows)) (concat (drop i (row_texts line indices rows)))
    (text ++ joined_row_texts line indices rows) c.loop-i.invariant.partly_written (told_rest line text indices rows i))

pub returns-in_err-write_if_large-clause-prefix_written : goal.returns-in_err-write_if_large-clause-prefix_written
returns-in_err-write_if_large-clause-prefix_written g c =
    let error = err_from_is_err_and c.from_residual-in_err-write_if_large.result
    c.from_residual-in_err-write_if_large.ensures.1 in
    let line = case_text c.args.suite.now.name.now (judge_view c.args.suite.now.judge) (g.T.RowReporter.line c.args.cases.now.reporter.now) in
    let text = c.args.text.now.items in
    let indices = c.args.cases.now.indices.now in
    let rows = c.args.cases.now.rows.now in
    let i = c.loop-i.i in
    let any = some_row rows i (omega arith) in
    let row = get_or rows i any in
    let before = g.W.Sink.accepted c.args.out.now in
    let after = g.W.Sink.accepted c.write_if_large.new.out in
    let told_so_far = text ++ joined_row_texts line indices (take i rows) in
    let longer = text ++ joined_row_texts line indices (take (i + 1) rows) in
    rw error.1 (beginning_of_longer before after longer (concat (drop (i + 1) (row_texts line indices rows)))
    (text ++ joined_row_texts line indices rows)
    (failed_under_way before (g.W.Sink.accepted c.loop-i.out) after c.loop-i.text.items (line (get_or indices i 0) row)
    c.push_case.new.text.items told_so_far longer c.loop-i.invariant.partly_written
    (c.in_ok-push_case.ensures any) c.in_err-write_if_large.ensures.prefix_written
    (told_behind line text indices rows i 0 row (omega arith) (omega arith) (get_or_default rows i any row (omega arith))))
    (told_rest line text indices rows (i + 1)))

pub loop-i-preserved : goal.loop-i-preserved
loop-i-preserved g c =
    let line = case_text c.args.suite.now.name.now (judge_view c.args.suite.now.judge) (g.T.RowReporter.line c.args.cases.now.reporter.now) in
    let text = c.args.text.now.items in
    let indices = c.args.cases.now.indices.now in
    let rows = c.args.cases.now.rows.now in
    let i = c.loop-i.i in
    let any = some_row rows i (omega arith) in
    let row = get_or rows i any in
    record {
      partly_written = more_under_way (g.W.Sink.accepted c.args.out.now) (g.W.Sink.accepted c.loop-i.out)
          (g.W.Sink.accepted c.write_if_large.new.out) c.loop-i.text.items (line (get_or indices i 0) row)
          c.push_case.new.text.items c.write_if_large.new.text.items (text ++ joined_row_texts line indices (take i rows))
          (text ++ joined_row_texts line indices (take (i + 1) rows)) c.loop-i.invariant.partly_written (c.in_ok-push_case.ensures any)
          c.in_ok-write_if_large.ensures.partly_written
          (told_behind line text indices rows i 0 row (omega arith) (omega arith) (get_or_default rows i any row (omega arith)));
      counted = c.in_ok-write_if_large.ensures.no_failed_writes ∙ c.loop-i.invariant.counted;
    }

pub returns-clause-partly_written : goal.returns-clause-partly_written
returns-clause-partly_written g c =
    let line = case_text c.args.suite.now.name.now (judge_view c.args.suite.now.judge) (g.T.RowReporter.line c.args.cases.now.reporter.now) in
    let text = c.args.text.now.items in
    subst (λ (rows : List Row). IsPartlyWritten (g.W.Sink.accepted c.args.out.now) (g.W.Sink.accepted c.loop-i.out)
    c.loop-i.text.items (text ++ joined_row_texts line c.args.cases.now.indices.now rows))
    (take_all c.loop-i.i c.args.cases.now.rows.now (omega arith)) c.loop-i.invariant.partly_written
