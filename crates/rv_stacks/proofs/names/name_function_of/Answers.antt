-- A function without a name gets its own, behind the others.
use Rattle.std.proofs.Common.{◌+◌, ◌++◌, ◌∷◌, ◌^◌, ◌<◌, List, [], rules, Fits, w32, sym, subst, arith}
use Rattle.rv_count_tables.specs.declared.table.FunctionName.{FunctionName}
use Rattle.rv_stacks.specs.StackTables.{name_of_function, AreNamedUpTo}
use Rattle.rv_stacks.proofs.RisingNames.{gets_name, stays_named}
use Rattle.rv_stacks.proofs.names.name_function_of.Goals as goal

pub returns-then-is_named-clause-names : goal.returns-then-is_named-clause-names
returns-then-is_named-clause-names c = λ nodes h rises.
    let less = c.if-is_named.true in
    stays_named (name_of_function c.args.symbols.now.image.now c.args.symbols.now.bytes.now) nodes c.args.first_unnamed c.args.names.now.items c.args.node
    h rises (omega (arith, less))

pub returns-clause-names : goal.returns-clause-names
returns-clause-names c = λ nodes h rises.
    let name = name_of_function c.args.symbols.now.image.now c.args.symbols.now.bytes.now in
    let s = c.args.node in
    let f : Fits w32 s.function = search rules in
    let small : s.function < 2 ^ 32 = let k = f.fits in omega (arith, k) in
    let over = c.if-is_named.false in
    subst (λ (ns : List FunctionName). AreNamedUpTo name (nodes ++ s ∷ []) (s.function + 1) ns) (sym c.in_ok-push.ensures.items)
    (gets_name name nodes c.args.first_unnamed c.args.names.now.items s h rises c.in_ok-name.name (omega (arith, over)) small
    c.in_ok-name.ensures.value c.in_ok-name.ensures.line c.in_ok-name.ensures.text)
