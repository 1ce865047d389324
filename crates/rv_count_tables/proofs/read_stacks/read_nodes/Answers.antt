-- Each line that is read is one more.
use Rattle.std.proofs.Common.{◌≡◌, ◌∙◌, ◌+◌, ◌<◌, ◌++◌, [], ◌∷◌, ℕ, List, length, drop, ap, sym, subst, arith}
use Rattle.rv_count_tables.specs.declared.table.FunctionName.{FunctionName}
use Rattle.rv_count_tables.specs.Lines.{whole_line}
use Rattle.rv_count_tables.specs.ReadSteps.{function_name, with_name, AgreesWithName}
use Rattle.rv_count_tables.specs.Table.{name_of}
use Rattle.rv_count_tables.proofs.ReadingLines.{further_within}
use Rattle.rv_count_tables.proofs.ReadingStacks.{SpotsSoFar, all_spots, no_spots_so_far, one_spot, spot_is_long}
use Rattle.rv_count_tables.proofs.read_stacks.read_nodes.Goals as goal
use Rattle.rv_call_tree.specs.declared.call_node.CallNode.{CallNode}
use Rattle.rv_call_tree.specs.Trees.{path_after, MayFollow}

pub lines-init : goal.lines-init
lines-init c = subst (λ (ss : List CallNode). SpotsSoFar c.args.text.now ss c.new-names.result c.new-path.result.items 0) (sym c.new-nodes.ensures.items)
    (subst (λ (ns : List FunctionName). SpotsSoFar c.args.text.now [] ns c.new-path.result.items 0) (sym c.new-names.ensures)
    (subst (λ (path : List ℕ). SpotsSoFar c.args.text.now [] [] path 0) (sym c.new-path.ensures.items)
    (no_spots_so_far c.args.text.now)))

pub lines-smaller : goal.lines-smaller
lines-smaller c =
    let w = c.whole_line-line.ensures ∙ ap whole_line c.tail_from.ensures in
    let line = rw c.in-Some.is at c.in_ok-parsed.ensures.line in
    let inside = further_within c.args.text.now c.lines.length c.lines.invariant.lines.within in
    let same = ap (λ (s : List ℕ). length s) w in
    let long = subst (λ (s : List ℕ). 0 < length s) (sym line) (spot_is_long c.in-Some.parsed) in
    omega (arith, inside, same, long)

pub lines-preserved : goal.lines-preserved
lines-preserved c =
    let text = c.args.text.now in
    let front = c.lines.path.items in
    let names = c.lines.names in
    let read = c.in-Some.parsed in
    let w = c.whole_line-line.ensures ∙ ap whole_line c.tail_from.ensures in
    let fits = rw c.in-Some.is at c.in_ok-parsed.ensures.node (drop c.lines.length text) w in
    let stands = subst (λ (path : List ℕ). MayFollow path read.node) c.as_slice.ensures.value
    (rw c.in-Some.is at c.in_ok-parsed.ensures.preorder) in
    let agrees : AgreesWithName read.name (name_of read.node.function names) = rw c.in-Some.is at c.in_ok-parsed.ensures.name in
    let line = rw c.in-Some.is at c.in_ok-parsed.ensures.line in
    let m = c.lines.length + length c.whole_line-line.result.now in
    let more = one_spot text c.lines.nodes.items names front c.lines.length m read c.lines.invariant fits stands agrees
    (sym w ∙ line) (ap (λ (s : List ℕ). c.lines.length + length s) w) in
    let path : c.push_item.new.items.items ≡ path_after front read.node = c.in_ok-push_item-in-Some.ensures
    ∙ ap (λ (p : List ℕ). p ++ read.node.function ∷ []) c.truncate.ensures.items in
    let known : c.add.new.self ≡ with_name (function_name read) names = c.in_ok-add-in-Some.ensures
    ∙ ap (λ (n : FunctionName). with_name n names) c.function_name.ensures in
    subst (λ (ss : List CallNode). SpotsSoFar text ss c.add.new.self c.push_item.new.items.items m)
    (sym c.in_ok-push_item-in-Some-2.ensures)
    (subst (λ (ns : List FunctionName). SpotsSoFar text (c.lines.nodes.items ++ read.node ∷ []) ns c.push_item.new.items.items m)
    (sym known)
    (subst (λ (p : List ℕ). SpotsSoFar text (c.lines.nodes.items ++ read.node ∷ []) (with_name (function_name read) names) p m)
    (sym path) more))

pub returns-in-None : goal.returns-in-None
returns-in-None c =
    let w = c.whole_line-line.ensures ∙ ap whole_line c.tail_from.ensures in
    all_spots c.args.text.now c.as_slice.result.now c.lines.path.items c.whole_line-line.result.now c.lines.nodes.items c.lines.names _
    c.lines.invariant c.new.ensures c.in_ok-into_names-in-None.ensures c.as_slice.ensures.value w
    (rw c.in-None.is at c.in_ok-parsed.ensures.none)
