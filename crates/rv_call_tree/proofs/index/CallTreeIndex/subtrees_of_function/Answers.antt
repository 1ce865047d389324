-- They stand side by side, from the first that is not lower to the first that is greater.
use Rattle.std.proofs.Common.{◌∙◌, ◌-◌, List, leb, ltb, drop, length, rules, subst, sym, take}
use Rattle.std.specs.List.Sorted.{IsNonDecreasingBy}
use Rattle.std.proofs.lemmas.List.Sorted.{IsNonDecreasingBy-drop, IsNonDecreasingBy-take, IsPartitionPoint-from_clause, IsPartitionedBy-leb, IsPartitionedBy-ltb}
use Rattle.rv_call_tree.specs.declared.subtree.Subtree.{Subtree}
use Rattle.rv_call_tree.specs.Subtrees.{AreSubtreesByFunction}
use Rattle.rv_call_tree.proofs.ByFunction.{key_of, run_of_rest}
use Rattle.rv_call_tree.proofs.index.CallTreeIndex.subtrees_of_function.Goals as goal

pub returns : goal.returns
returns c =
    let self = c.args.self.now in
    let f = c.args.function in
    let xs = c.as_slice-subtrees.result.now in
    let start = c.partition_point-start.result in
    let rest = take (length xs - start) (drop start xs) in
    let same = sym c.as_slice-subtrees.ensures.value in
    let rising = subst (λ (l : List Subtree). IsNonDecreasingBy key_of l) same self.rising in
    let each = subst (λ (l : List Subtree). AreSubtreesByFunction self.nodes.now l) same self.each in
    let first = IsPartitionPoint-from_clause (λ (s : Subtree). ltb s.function f) xs start c.partition_point-start.ensures.partitioned
    (IsPartitionedBy-ltb key_of xs f rising) (λ a r q k. search rules) in
    let last = IsPartitionPoint-from_clause (λ (s : Subtree). leb s.function f) rest c.partition_point.result
    c.partition_point.ensures.partitioned
    (IsPartitionedBy-leb key_of rest f
    (IsNonDecreasingBy-take key_of (length xs - start) (drop start xs) (IsNonDecreasingBy-drop key_of start xs rising)))
    (λ a r q k. search rules) in
    run_of_rest f xs start c.partition_point.result c.partition_point-start.ensures.bound c.partition_point.ensures.bound first last
    ∙ each f
