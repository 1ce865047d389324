-- The names of lower functions are within the list.
use Rattle.std.proofs.Common.{length, ap, arith, nat_lt}
use Rattle.rv_count_tables.specs.declared.table.FunctionName.{FunctionName}
use Rattle.rv_count_tables.proofs.NamesOfSpots.{prefix_within}
use Rattle.rv_count_tables.proofs.names.add_name.Goals as goal

pub insert-requires : goal.insert-requires
insert-requires c =
    let is = c.index_of_function-index.ensures in
    let within = prefix_within (λ (m : FunctionName). nat_lt m.function c.args.name.function) c.as_slice-2.result.now in
    let long = c.as_slice-2.ensures.len in
    let same = ap length c.as_slice-2.ensures.value in
    omega (arith, is, within, long, same)
