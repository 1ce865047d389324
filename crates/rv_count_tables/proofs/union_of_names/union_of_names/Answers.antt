-- At the end nothing is left.
use Rattle.std.proofs.Common.{List, sym, subst, arith}
use Rattle.rv_count_tables.specs.declared.table.FunctionName.{FunctionName}
use Rattle.rv_count_tables.specs.Sum.{IsSumOfNames}
use Rattle.std.proofs.lemmas.List.{take_rest}
use Rattle.std.proofs.lemmas.Result.{err_from_is_err_and}
use Rattle.rv_count_tables.proofs.AddingNames.{names_summed, no_sum_of_rest}
use Rattle.rv_count_tables.proofs.union_of_names.union_of_names.Goals as goal

pub returns-clause-value : goal.returns-clause-value
returns-clause-value c =
    let inv = c.loop-from_a.invariant in
    let n = c.if-from_a-a.false in
    let m = c.if-from_b-b.false in
    subst (λ (s : List FunctionName). IsSumOfNames c.args.a.now c.args.b.now s) (sym c.new.ensures)
    (names_summed _ _ _ c.loop-from_a.from_a c.loop-from_a.from_b c.requires.a c.requires.b (omega (arith, n)) (omega (arith, m))
    inv.ahead)

pub returns-in_err-next-clause-error : goal.returns-in_err-next-clause-error
returns-in_err-next-clause-error c =
    let error = err_from_is_err_and c.from_residual.result c.from_residual.ensures.1 in
    let refused = simp take_rest at c.in_err-next.ensures.error in
    rw (error.1, error.2)
    (no_sum_of_rest c.loop-from_a.from_a c.loop-from_a.from_b c.args.a.now c.args.b.now _ refused)
