-- A sort moves the spots, and no more.
use Rattle.std.proofs.Common.{◌∙◌, ◌+◌, ◌++◌, ◌∷◌, List, [], get_or, rules, sym, ap, subst, arith}
use Rattle.std.proofs.lemmas.List.{take_all, take_more}
use Rattle.std.proofs.lemmas.List.Sorted.{IsNonDecreasingBy-from_sort_by_key}
use Rattle.std.specs.List.Sorted.{IsPermutation}
use Rattle.rv_count_tables.specs.declared_call_node.CallNode.{CallNode}
use Rattle.rv_stacks.proofs.names.by_function.Goals as goal

pub loop-node-preserved : goal.loop-node-preserved
loop-node-preserved c =
    let nodes = c.args.nodes.now in
    let i = c.loop-node.node-index in
    let nothing : CallNode = record { depth = 0; function = 0; calls = 0; steps = 0 } in
    c.in_ok-push.ensures.items
    ∙ ap (λ (ss : List CallNode). ss ++ get_or nodes i nothing ∷ []) c.loop-node.invariant
    ∙ sym (take_more nodes i nothing c.loop-node-test.true)

pub returns-clause-permutation : goal.returns-clause-permutation
returns-clause-permutation c =
    let over = c.loop-node-test.false in
    let all = c.loop-node.invariant ∙ take_all c.loop-node.node-index c.args.nodes.now (omega (arith, over)) in
    subst (λ (ss : List CallNode). IsPermutation ss c.sort_unstable_by_key.new.self.items) all c.sort_unstable_by_key.ensures.permutation

pub returns-clause-sorted : goal.returns-clause-sorted
returns-clause-sorted c = IsNonDecreasingBy-from_sort_by_key (λ s. s.function) _ c.sort_unstable_by_key.ensures.sorted
    (λ a r q k. search rules)
