-- The totals of coverage as they are added up.
use Rattle.std.specs.Prelude.{◌+◌, ◌^◌, ◌<◌}
use Rattle.rv_cover_view.specs.declared.totals.CodeTotals.{CodeTotals}

-- coverage totals that are all zero
abbrev pub no_totals : CodeTotals
no_totals = record { instructions = 0; instructions_run = 0; branches_both_ways = 0; branches_one_way = 0; branches_never = 0 }

-- the sums of two coverage totals
abbrev pub plus : CodeTotals → CodeTotals → CodeTotals
plus a b = record {
  instructions = a.instructions + b.instructions;
  instructions_run = a.instructions_run + b.instructions_run;
  branches_both_ways = a.branches_both_ways + b.branches_both_ways;
  branches_one_way = a.branches_one_way + b.branches_one_way;
  branches_never = a.branches_never + b.branches_never;
}

-- each of the coverage totals fits in 64 bits
pub record FitsIn64Bits (a : CodeTotals) : Type 0 where
  pub instructions : a.instructions < 2 ^ 64
  pub instructions_run : a.instructions_run < 2 ^ 64
  pub branches_both_ways : a.branches_both_ways < 2 ^ 64
  pub branches_one_way : a.branches_one_way < 2 ^ 64
  pub branches_never : a.branches_never < 2 ^ 64
