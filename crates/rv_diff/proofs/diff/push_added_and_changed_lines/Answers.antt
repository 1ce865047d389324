use Rattle.std.proofs.Common.{◌≡◌, ◌∙◌, ◌++◌, ap, sym, Some}
use Rattle.std.specs.Prelude.{is_none}
use Rattle.rv_diff.specs.Change.{change_of}
use Rattle.rv_diff.specs.RowsByName.{row_named}
use Rattle.rv_diff.specs.Diff.{is_missing_from, is_changed, changes_of_row}
use Rattle.rv_diff.proofs.Changes.{IsCounted, added_is, changed_is, counted_within, same_is}
use Rattle.rv_diff.proofs.OneMore.{count_all, count_more, one_where_passing, same_where_failing, text_all, text_more}
use Rattle.rv_diff.proofs.diff.push_added_and_changed_lines.Goals.{in-Added, in-Changed, in_default}
use Rattle.rv_diff.proofs.diff.push_added_and_changed_lines.Goals as goal

pub loop-row-preserved : goal.loop-row-preserved
loop-row-preserved c =
    let compare = c.args.mode in
    let before = c.args.old.now in
    let row = c.row-item.result in
    let other = row_named before row.name in
    let found = c.find-other.ensures ∙ (λ i. row_named (c.in_ok-before.ensures i) (c.as_str.ensures i)) in
    let change : c.change_of.result ≡ change_of compare other (Some row) =
    c.change_of.ensures ∙ ap (λ o. change_of compare o (Some row)) found in
    let alone = is_none other in
    let changed = is_changed compare other row in
    let counts = c.match-change_of in
    let one : IsCounted compare other row c.loop-row.added c.loop-row.changed counts.added counts.changed =
    elim c.match-change_of.branch [
      | in-Added w ↦ (let is = added_is compare other row (sym change ∙ w.in-Added.is) in (
        one_where_passing alone c.loop-row.added counts.added is.0 w.added-is,
        same_where_failing changed c.loop-row.changed counts.changed is.1 w.changed-is,
      ))
      | in-Changed w ↦ (let is = changed_is compare other row (sym change ∙ w.in-Changed.is) in (
        same_where_failing alone c.loop-row.added counts.added is.0 w.added-is,
        one_where_passing changed c.loop-row.changed counts.changed is.1 w.changed-is,
      ))
      | in_default w ↦ (let is = same_is compare other row (λ e. w.in_default.not-Added (change ∙ e))
          (λ e. w.in_default.not-Changed (change ∙ e)) in (
            same_where_failing alone c.loop-row.added counts.added is.0 w.added-is,
            same_where_failing changed c.loop-row.changed counts.changed is.1 w.changed-is,
          ))
    ] in
    record {
      text = text_more (λ row. changes_of_row compare (row_named before row.name) row) c.args.new.now c.loop-row.row-index
          row c.args.text.now.items c.loop-row.text.items c.push_changes_of_row.new.text.items c.loop-row-test.true
          c.row-item.is c.loop-row.invariant.text
          (c.in_ok-push_changes_of_row.ensures ∙ ap (λ o. c.loop-row.text.items ++ changes_of_row compare o row) found);
      added = count_more (is_missing_from before) c.args.new.now c.loop-row.row-index row c.loop-row.added
          c.match-change_of.added c.loop-row-test.true c.row-item.is c.loop-row.invariant.added one.0;
      changed = count_more (λ row. is_changed compare (row_named before row.name) row) c.args.new.now
          c.loop-row.row-index row c.loop-row.changed c.match-change_of.changed c.loop-row-test.true c.row-item.is
          c.loop-row.invariant.changed one.1;
      within = counted_within compare other row c.loop-row.added c.loop-row.changed c.match-change_of.added
          c.match-change_of.changed c.loop-row.row-index one c.loop-row.invariant.within;
    }

pub returns-clause-text : goal.returns-clause-text
returns-clause-text c =
    text_all (λ row. changes_of_row c.args.mode (row_named c.args.old.now row.name) row) c.args.new.now
    c.loop-row.row-index c.args.text.now.items c.loop-row.text.items c.loop-row-test.false c.loop-row.invariant.text

pub returns-clause-added : goal.returns-clause-added
returns-clause-added c =
    count_all (is_missing_from c.args.old.now) c.args.new.now c.loop-row.row-index c.loop-row.added
    c.loop-row-test.false c.loop-row.invariant.added

pub returns-clause-changed : goal.returns-clause-changed
returns-clause-changed c =
    count_all (λ row. is_changed c.args.mode (row_named c.args.old.now row.name) row) c.args.new.now
    c.loop-row.row-index c.loop-row.changed c.loop-row-test.false c.loop-row.invariant.changed
