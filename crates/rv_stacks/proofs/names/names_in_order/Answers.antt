-- The function of one spot more is named.
use Rattle.std.proofs.Common.{◌≡◌, ◌+◌, ◌++◌, ◌∷◌, List, [], get_or, sym, subst, take, arith}
use Rattle.std.proofs.lemmas.List.{take_more}
use Rattle.std.specs.List.{AllByRecursion}
use Rattle.rv_count_tables.specs.declared.table.FunctionName.{FunctionName}
use Rattle.rv_count_tables.specs.declared_call_node.CallNode.{CallNode}
use Rattle.rv_count_tables.specs.Sums.{FitsFields}
use Rattle.rv_stacks.specs.StackTables.{name_of_function, AreNamedUpTo, AreNamesBy}
use Rattle.rv_stacks.proofs.NamedSpots.{each_push, none_named}
use Rattle.rv_stacks.proofs.RisingNames.{none_named_yet}
use Rattle.rv_stacks.proofs.names.names_in_order.Goals as goal

pub loop-node-init : goal.loop-node-init
loop-node-init c =
    let name = name_of_function c.args.symbols.now.image.now c.args.symbols.now.bytes.now in record {
      named = subst (λ (ns : List FunctionName). AreNamesBy name [] ns) (sym c.new-names.ensures.items) (none_named name);
      up_to = subst (λ (ns : List FunctionName). AreNamedUpTo name [] 0 ns) (sym c.new-names.ensures.items) (none_named_yet name);
      rising = λ k low within. omega arith;
      fits = tt;
    }

pub loop-node-preserved : goal.loop-node-preserved
loop-node-preserved c =
    let name = name_of_function c.args.symbols.now.image.now c.args.symbols.now.bytes.now in
    let nodes = c.args.nodes.now in
    let i = c.loop-node.node-index in
    let nothing : CallNode = record { depth = 0; function = 0; calls = 0; steps = 0 } in
    let node = get_or nodes i nothing in
    let under = c.loop-node-test.true in
    let more : take (i + 1) nodes ≡ take i nodes ++ node ∷ [] = take_more nodes i nothing under in
    let up_to = subst (λ (ss : List CallNode). AreNamedUpTo name ss (node.function + 1) c.name_function_of.new.names.items) (sym more)
    (c.in_ok-name_function_of.ensures.names (take i nodes) c.loop-node.invariant.up_to
    (c.loop-node.invariant.rising i (omega arith) under)) in record {
      named = up_to.named;
      up_to = up_to;
      rising = λ k low within.
          let r = c.requires i k nothing (omega (arith, low)) within in omega (arith, r);
      fits = subst (λ (ss : List CallNode). AllByRecursion FitsFields ss) (sym more)
          (each_push FitsFields (take i nodes) node c.loop-node.invariant.fits c.in_ok-name_function_of.ensures.fits);
    }
