use Rattle.std.proofs.Common.{◌∙◌, ◌+◌, ◌++◌, length}
use Rattle.std.specs.List.{flat_map}
use Rattle.rv_diff.specs.RowsByName.{row_named}
use Rattle.rv_diff.specs.Diff.{count_line, diff_text, difference_counts, gone_line, changes_of_row, step_sums}
use Rattle.rv_diff.proofs.OneMore.{more}
use Rattle.rv_diff.proofs.diff.push_diff.Goals as goal

pub returns-clause-text : goal.returns-clause-text
unfolding diff_text
returns-clause-text c =
    let begun = c.args.text.now.items in
    let old = c.args.compared.old.now in
    let new = c.args.compared.new.now in
    let not_compared = c.args.compared.not_compared in
    let compare = c.args.mode in
    let gone = flat_map (λ row. gone_line (row_named new row.name) row) old in
    let others = flat_map (λ row. changes_of_row compare (row_named old row.name) row) new in
    let counts = difference_counts compare old new in
    let counted = c.in_ok-gone.ensures.count in
    let added = c.in_ok-added.ensures.added in
    let changed = c.in_ok-added.ensures.changed in
    more begun c.push_added_and_changed_lines.new.text.items c.push_count_line.new.text.items (gone ++ others)
    (count_line (length new + counts.gone) counts not_compared (step_sums compare old new))
    (more begun c.push_gone_lines.new.text.items c.push_added_and_changed_lines.new.text.items gone others c.in_ok-gone.ensures.text
    c.in_ok-added.ensures.text)
    (c.in_ok-push_count_line.ensures
    ∙ (λ i. c.push_added_and_changed_lines.new.text.items
    ++ count_line (length new + counted i) (record { gone = counted i; added = added i; changed = changed i }) not_compared
    (c.step_sums-sums.ensures i)))

pub returns-clause-counts : goal.returns-clause-counts
returns-clause-counts c =
    let counted = c.in_ok-gone.ensures.count in
    let added = c.in_ok-added.ensures.added in
    let changed = c.in_ok-added.ensures.changed in
    λ i. record { gone = counted i; added = added i; changed = changed i }
