-- The index is that of the names.
use Rattle.std.proofs.Common.{◌∙◌, ◌++◌, List, ℕ, ap, string_bytes}
use Rattle.std.proofs.lemmas.List.{take_all}
use Rattle.std.specs.List.{flat_map}
use Rattle.rv_count_tables.specs.ParsedNodes.{line_by_index}
use Rattle.rv_count_tables.proofs.SpotIndexes.{lines_are}
use Rattle.rv_count_tables.proofs.text.push_nodes.Goals as goal
use Rattle.rv_call_tree.specs.declared.call_node.CallNode.{CallNode}

pub returns : goal.returns
returns c =
    let nodes = c.args.nodes.now in
    let index = c.in_ok-index.index in
    let old = string_bytes c.args.text.now in
    c.loop-node.invariant
    ∙ ap (λ (ss : List CallNode). old ++ flat_map (line_by_index index) ss) (take_all c.loop-node.node-index nodes c.loop-node-test.false)
    ∙ ap (λ (lines : List ℕ). old ++ lines) (lines_are index c.args.names.now nodes c.in_ok-index.ensures)
