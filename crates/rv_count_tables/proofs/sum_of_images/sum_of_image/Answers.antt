-- The spots are a tree, a run came to each, and their functions have names.
use Rattle.std.proofs.Common.{List, subst}
use Rattle.std.proofs.lemmas.Result.{err_from_is_err_and}
use Rattle.rv_count_tables.specs.declared.table.FunctionName.{FunctionName}
use Rattle.rv_count_tables.specs.Sum.{IsSumOfNames}
use Rattle.rv_count_tables.proofs.AddingImages.{are_spots, no_sum_of_named}
use Rattle.rv_count_tables.proofs.SumsOfStacks.{names_of_sum}
use Rattle.rv_count_tables.proofs.sum_of_images.sum_of_image.Goals as goal
use Rattle.rv_call_tree.specs.declared.call_node.CallNode.{CallNode}
use Rattle.rv_call_tree.specs.Sums.{IsSumOfCallTrees}

pub returns-clause-valid_nodes : goal.returns-clause-valid_nodes
returns-clause-valid_nodes c =
    are_spots _ _ _ _ _ c.requires.a.nodes c.requires.b.nodes c.as_slice-6.ensures c.as_slice-7.ensures
    c.in_ok-nodes.ensures.value c.in_ok-nodes.ensures.fits

pub returns-clause-names_of_nodes : goal.returns-clause-names_of_nodes
returns-clause-names_of_nodes c =
    let a = c.args.a.now in
    let b = c.args.b.now in
    let functions = c.in_ok-functions.functions in
    let nodes = c.in_ok-nodes.nodes in
    names_of_sum a b functions nodes c.requires.a c.requires.b
    (subst (λ (ns : List FunctionName). IsSumOfNames a.functions ns functions) c.as_slice-5.ensures
    (subst (λ (ns : List FunctionName). IsSumOfNames ns c.as_slice-5.result.now functions) c.as_slice-4.ensures
    c.in_ok-functions.ensures.value))
    (subst (λ (ss : List CallNode). IsSumOfCallTrees a.nodes ss nodes) c.as_slice-7.ensures
    (subst (λ (ss : List CallNode). IsSumOfCallTrees ss c.as_slice-7.result.now nodes) c.as_slice-6.ensures
    c.in_ok-nodes.ensures.value))

pub returns-in_err-functions-clause-error : goal.returns-in_err-functions-clause-error
returns-in_err-functions-clause-error c =
    let a = c.args.a.now in
    let b = c.args.b.now in
    let error = err_from_is_err_and c.from_residual-in_err-functions.result c.from_residual-in_err-functions.ensures.1 in
    rw (error.1, error.2)
    (no_sum_of_named _ a b _ _ c.as_slice-4.ensures c.as_slice-5.ensures c.in_err-functions.ensures.error)
