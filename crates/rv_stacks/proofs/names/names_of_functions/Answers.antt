-- The names of spots in another order are theirs.
use Rattle.std.proofs.lemmas.Result.{IfOk-weaker}
use Rattle.std.proofs.Common.{List, sym, subst}
use Rattle.std.specs.List.Sorted.{IsNonDecreasingBy, IsPermutation}
use Rattle.rv_count_tables.specs.declared_call_node.CallNode.{CallNode}
use Rattle.rv_stacks.specs.StackTables.{name_of_function}
use Rattle.rv_stacks.proofs.RisingNames.{fit_in_order, named_in_order}
use Rattle.rv_stacks.proofs.names.names_of_functions.Goals as goal

pub names_in_order-requires : goal.names_in_order-requires
names_in_order-requires c =
    subst (λ (ss : List CallNode). IsNonDecreasingBy (λ (s : CallNode). s.function) ss) (sym c.as_slice.ensures.value) c.in_ok-sorted.ensures.sorted

pub returns-clause-names : goal.returns-clause-names
returns-clause-names c =
    let same = subst (λ (ss : List CallNode). IsPermutation c.args.nodes.now ss) (sym c.as_slice.ensures.value) c.in_ok-sorted.ensures.permutation in
    IfOk-weaker c.names_in_order.result _ _
    (λ names h. named_in_order (name_of_function c.args.symbols.now.image.now c.args.symbols.now.bytes.now) _ _ _ same h)
    c.names_in_order.ensures.names

pub returns-clause-fits : goal.returns-clause-fits
returns-clause-fits c =
    let same = subst (λ (ss : List CallNode). IsPermutation c.args.nodes.now ss) (sym c.as_slice.ensures.value) c.in_ok-sorted.ensures.permutation in
    IfOk-weaker c.names_in_order.result _ _ (λ names h. fit_in_order _ _ same h) c.names_in_order.ensures.fits
