-- From subtree to subtree.
use Rattle.std.proofs.Common.{[], arith, refl}
use Rattle.rv_call_tree.specs.declared.subtree.Subtree.{Subtree}
use Rattle.rv_call_tree.specs.Subtrees.{subtrees_of_function}
use Rattle.rv_call_tree.specs.Trees.{calls_of_node, steps_of}
use Rattle.rv_call_tree.proofs.Profiled.{inclusive_fits, inclusive_step, inclusive_told, own_fits, sum_step, told_of_each}
use Rattle.rv_call_tree.proofs.index.CallTreeIndex.steps_of.Goals as goal

-- what is read where there is none
abbrev none : Subtree
none = record { function = 0; index = 0; end = 0; own = 0; inclusive = 0; calls = 0 }

pub loop-subtree-init : goal.loop-subtree-init
loop-subtree-init c =
    let f = c.args.function in
    let self = c.args.self.now in
    let nodes = self.nodes.now in record {
      own = (let told = told_of_each f 0 steps_of (λ (t : Subtree). t.own) (λ k s ss. refl) nodes in omega (arith, told));
      inclusive = (let told = inclusive_told f nodes self.tree in omega (arith, told));
      calls = (let told = told_of_each f 0 calls_of_node (λ (t : Subtree). t.calls) (λ k s ss. refl) nodes in omega (arith, told));
    }

pub overflow_add-found : goal.overflow_add-found
overflow_add-found c =
    let f = c.args.function in
    let self = c.args.self.now in
    let nodes = self.nodes.now in
    let step = sum_step (λ (t : Subtree). t.own) c.subtrees_of_function-subtree-items.result.now (subtrees_of_function f nodes)
    c.loop-subtree.subtree-index none c.subtrees_of_function-subtree-items.ensures c.loop-subtree-test.true in
    let so_far = c.loop-subtree.invariant.own in
    let fits = own_fits f steps_of nodes in
    let few = self.steps_fit in
    omega (arith, step, so_far, fits, few)

pub overflow_add-found-in-loop-subtree : goal.overflow_add-found-in-loop-subtree
overflow_add-found-in-loop-subtree c =
    let f = c.args.function in
    let self = c.args.self.now in
    let nodes = self.nodes.now in
    let step = sum_step (λ (t : Subtree). t.calls) c.subtrees_of_function-subtree-items.result.now (subtrees_of_function f nodes)
    c.loop-subtree.subtree-index none c.subtrees_of_function-subtree-items.ensures c.loop-subtree-test.true in
    let so_far = c.loop-subtree.invariant.calls in
    let fits = own_fits f calls_of_node nodes in
    let few = self.calls_fit in
    omega (arith, step, so_far, fits, few)

pub overflow_add-found-then-end-subtree : goal.overflow_add-found-then-end-subtree
overflow_add-found-then-end-subtree c =
    let f = c.args.function in
    let self = c.args.self.now in
    let nodes = self.nodes.now in
    let step = inclusive_step c.subtrees_of_function-subtree-items.result.now (subtrees_of_function f nodes)
    c.loop-subtree.subtree-index c.loop-subtree.end none c.subtrees_of_function-subtree-items.ensures c.loop-subtree-test.true
    c.if-end-subtree.true in
    let so_far = c.loop-subtree.invariant.inclusive in
    let fits = inclusive_fits f [] nodes in
    let few = self.steps_fit in
    omega (arith, step, so_far, fits, few)
