use Rattle.std.proofs.Common.{◌≡◌, ◌∙◌, ◌+◌, ◌++◌, ap, append-nil, cond, sym, Some}
use Rattle.std.specs.Prelude.{is_none}
use Rattle.rv_diff.specs.Change.{change_of}
use Rattle.rv_diff.specs.RowsByName.{row_named}
use Rattle.rv_diff.specs.Diff.{gone_line, is_missing_from}
use Rattle.rv_diff.proofs.Changes.{gone_is_alone, stays_where_not_gone}
use Rattle.rv_diff.proofs.OneMore.{count_all, count_more, one_where_passing, same_where_failing, text_all, text_more, within_more}
use Rattle.rv_diff.proofs.diff.push_gone_lines.Goals.{in-Gone+in_ok-push_sign_line, in_default}
use Rattle.rv_diff.proofs.diff.push_gone_lines.Goals as goal

pub loop-row-preserved : goal.loop-row-preserved
loop-row-preserved c =
    let after = c.args.new.now in
    let row = c.row-item.result in
    let other = row_named after row.name in
    let so_far = c.loop-row.text.items in
    let found = c.find.ensures ∙ (λ i. row_named (c.in_ok-after.ensures i) (c.as_str.ensures i)) in
    let change : c.change_of.result ≡ change_of c.args.mode (Some row) other =
    c.change_of.ensures ∙ ap (change_of c.args.mode (Some row)) found in
    let one : (c.match-change_of.text.items ≡ so_far ++ gone_line other row)
    × (c.match-change_of.gone ≡ c.loop-row.gone + cond (is_none other) 1 0) =
    elim c.match-change_of.branch [
      | in-Gone+in_ok-push_sign_line w ↦
          (let alone = gone_is_alone c.args.mode row other (sym change ∙ w.in-Gone.is) in (
            ap (λ text. text.items) w.text-is ∙ w.in_ok-push_sign_line.ensures ∙ ap (λ o. so_far ++ gone_line o row) (sym alone),
            one_where_passing (is_none other) c.loop-row.gone c.match-change_of.gone (ap is_none alone) w.gone-is,
          ))
      | in_default w ↦
          (let stays = stays_where_not_gone c.args.mode row other (λ is. w.in_default.not-Gone (change ∙ is)) in (
            ap (λ text. text.items) w.text-is ∙ sym (append-nil so_far) ∙ ap (λ xs. so_far ++ xs) (sym stays.0),
            same_where_failing (is_none other) c.loop-row.gone c.match-change_of.gone stays.1 w.gone-is,
          ))
    ] in
    record {
      text = text_more (λ row. gone_line (row_named after row.name) row) c.args.old.now c.loop-row.row-index row
          c.args.text.now.items so_far c.match-change_of.text.items c.loop-row-test.true c.row-item.is
          c.loop-row.invariant.text one.0;
      count = count_more (is_missing_from after) c.args.old.now c.loop-row.row-index row c.loop-row.gone
          c.match-change_of.gone c.loop-row-test.true c.row-item.is c.loop-row.invariant.count one.1;
      within = within_more (is_none other) c.loop-row.gone c.match-change_of.gone c.loop-row.row-index one.1
          c.loop-row.invariant.within;
    }

pub returns-clause-text : goal.returns-clause-text
returns-clause-text c =
    text_all (λ row. gone_line (row_named c.args.new.now row.name) row) c.args.old.now c.loop-row.row-index
    c.args.text.now.items c.loop-row.text.items c.loop-row-test.false c.loop-row.invariant.text

pub returns-clause-count : goal.returns-clause-count
returns-clause-count c =
    count_all (is_missing_from c.args.new.now) c.args.old.now c.loop-row.row-index c.loop-row.gone c.loop-row-test.false
    c.loop-row.invariant.count
