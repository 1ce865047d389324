use Rattle.std.proofs.Common.{◌∙◌, List, sym, ap, subst}
use Rattle.std.specs.List.{list_all}
use Rattle.rv_count_tables.specs.declared_call_node.CallNode.{CallNode}
use Rattle.rv_stacks.specs.Nodes.{is_empty}
use Rattle.rv_stacks.specs.Walks.{ArePreorderOf}
use Rattle.rv_stacks.proofs.Flattened.{all_moved, none_moved, one_moved}
use Rattle.rv_stacks.proofs.preorder.preorder_of_nodes.Goals as goal

pub turns-init : goal.turns-init
turns-init c = let h = c.in_ok-builder.ensures c.args.nodes.items in none_moved c.args.nodes.items c.in_ok-builder.builder h.0 h.1

pub visit_next-requires : goal.visit_next-requires
visit_next-requires c = c.turns.invariant.standing

pub turns-preserved : goal.turns-preserved
turns-preserved c = one_moved c.args.nodes.items c.turns.remaining.items c.visit_next.new.remaining.items c.turns.builder c.visit_next.new.self
    c.turns.invariant c.in_ok-visit_next.ensures

pub returns-then-are_empty : goal.returns-then-are_empty
returns-then-are_empty c = subst (λ (ss : List CallNode). ArePreorderOf c.args.nodes.items ss) (sym c.new-then-are_empty.ensures)
    (all_moved c.args.nodes.items c.turns.remaining.items c.turns.builder c.turns.invariant
    (ap (list_all is_empty) (sym c.as_slice.ensures.value) ∙ sym c.are_empty.ensures ∙ c.if-are_empty.true))
