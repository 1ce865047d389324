-- The spots so far stand behind the text that there was.
use Rattle.std.proofs.Common.{◌≡◌, ◌++◌, take, string_bytes}
use Rattle.std.specs.List.{flat_map}
use Rattle.rv_count_tables.specs.ParsedNodes.{line_by_index}
use Rattle.rv_count_tables.proofs.text.push_nodes.Given as goal

abbrev pub invariant-loop-node : goal.invariant-loop-node
invariant-loop-node l = string_bytes l.text ≡ string_bytes l.fn.text ++ flat_map (line_by_index l.index) (take l.node-index l.nodes)
