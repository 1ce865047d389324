use Rattle.std.proofs.Common.{take}
use Rattle.rv_count_tables.specs.Sum.{no_counts}
use Rattle.rv_count_tables.specs.Table.{IsValidTable}
use Rattle.rvtest_app.specs.CountSums.{AreTablesAdded}
use Rattle.rvtest_app.proofs.counts.sum_of_paths.Given as goal

abbrev pub invariant-loop-path : goal.invariant-loop-path
invariant-loop-path g l =
    AreTablesAdded (g.D.Inputs.contents l.inputs) (take l.path-index l.paths) no_counts l.sum × IsValidTable l.sum
