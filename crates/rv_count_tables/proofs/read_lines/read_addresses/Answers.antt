-- Each line that is read is one more.
use Rattle.std.proofs.Common.{◌∙◌, ◌+◌, ◌<◌, ◌++◌, [], ◌∷◌, ℕ, List, length, ap, sym, subst, arith}
use Rattle.rv_count_tables.specs.declared.table.AddressCounts.{AddressCounts}
use Rattle.rv_count_tables.specs.Lines.{whole_line}
use Rattle.rv_count_tables.proofs.ReadingLines.{AreSoFar, none_so_far, one_so_far, further_within, address_is_long}
use Rattle.rv_count_tables.proofs.read_lines.read_addresses.Goals as goal

pub lines-init : goal.lines-init
lines-init c = subst (λ (cs : List AddressCounts). AreSoFar c.args.text.now cs 0 0) (sym c.new-addresses.ensures.items)
    (none_so_far c.args.text.now)

pub lines-smaller : goal.lines-smaller
lines-smaller c =
    let w = c.whole_line-line.ensures ∙ ap whole_line c.tail_from.ensures in
    let line = rw c.in-Some.is at c.in_ok-counts.ensures.line in
    let inside = further_within c.args.text.now c.lines.length c.lines.invariant.within in
    let same = ap (λ (s : List ℕ). length s) w in
    let long = subst (λ (s : List ℕ). 0 < length s) (sym line) (address_is_long c.in-Some.counts) in
    omega (arith, inside, same, long)

pub lines-preserved : goal.lines-preserved
lines-preserved c =
    let text = c.args.text.now in
    let w = c.whole_line-line.ensures ∙ ap whole_line c.tail_from.ensures in
    let counted = rw c.in-Some.is at c.in_ok-counts.ensures.valid in
    let under = rw c.in-Some.is at c.in_ok-counts.ensures.low in
    let line = rw c.in-Some.is at c.in_ok-counts.ensures.line in
    let m = c.lines.length + length c.whole_line-line.result.now in
    let more = one_so_far text c.lines.addresses.items c.lines.lowest c.lines.length m c.in-Some.counts c.lines.invariant
    counted under (sym w ∙ line) (ap (λ (s : List ℕ). c.lines.length + length s) w) in
    subst (λ (cs : List AddressCounts). AreSoFar text cs (c.from-lowest.result + 1) m)
    (sym c.in_ok-push_item-in-Some.ensures)
    (subst (λ (n : ℕ). AreSoFar text (c.lines.addresses.items ++ c.in-Some.counts ∷ []) (n + 1) m)
    (sym c.from-lowest.ensures) more)
