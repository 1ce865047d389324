use Rattle.std.proofs.Common.{◌≡◌, ◌∙◌, ap, append_assoc, sym}
use Rattle.std.specs.List.{flat_map}
use Rattle.std.specs.Prelude.{codes}
use Rattle.std.proofs.lemmas.List.Folds.{flat_map-map}
use Rattle.rvtest_app.specs.ReportSummary.{rows_with_most_steps, steps_line}
use Rattle.rv_diff.proofs.Public.{now}
use Rattle.rvtest_app.proofs.report_summary.push_most_steps.Goals as goal

pub returns : goal.returns
returns c =
    let rows = c.args.rows.now in
    let lines : flat_map (λ row. steps_line row.now) c.as_slice.result.now ≡ flat_map steps_line (rows_with_most_steps rows) =
    ap (flat_map (λ row. steps_line row.now)) c.as_slice.ensures.value
    ∙ sym (flat_map-map steps_line now c.in_ok-most.most.items)
    ∙ ap (flat_map steps_line) c.in_ok-most.ensures in
    rw (
      lines,
      c.in_ok-push_text.ensures,
      append_assoc c.args.text.now.items (codes "most steps:\n") (flat_map steps_line (rows_with_most_steps rows)),
    ) at
    c.push_steps_lines.ensures
