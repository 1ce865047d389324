-- Amounts of codes in two parts.
use Rattle.std.proofs.Common.{◌≡◌, ◌+◌, ◌^◌, ◌<◌, ◌++◌, List, length, arith}
use Rattle.std.proofs.lemmas.List.Sums.{count_by-le-length, sum_by-append}
use Rattle.rv_count_tables.specs.declared.table.AddressCounts.{AddressCounts}
use Rattle.rv_cover_view.specs.declared.totals.CodeTotals.{CodeTotals}
use Rattle.rv_cover_view.specs.Codes.{AddressedCode}
use Rattle.rv_cover_view.specs.Cover.{totals_of_codes, is_instruction, is_executed_instruction, is_branch_both_ways, is_branch_one_way, is_branch_never}
use Rattle.rv_cover_view.specs.Totals.{FitsIn64Bits, no_totals, plus}

pub amounts_of_parts : (counts : List AddressCounts) (xs ys : List AddressedCode)
    → totals_of_codes counts (xs ++ ys) ≡ plus (totals_of_codes counts xs) (totals_of_codes counts ys)
amounts_of_parts counts xs ys =
    let a = sum_by-append _ xs ys in
    let b = sum_by-append _ xs ys in
    let c = sum_by-append _ xs ys in
    let d = sum_by-append _ xs ys in
    let e = sum_by-append _ xs ys in
    λ i. record {
      instructions = a i;
      instructions_run = b i;
      branches_both_ways = c i;
      branches_one_way = d i;
      branches_never = e i;
    }

pub plus_parts : (a b c : CodeTotals) → plus (plus a b) c ≡ plus a (plus b c)
plus_parts a b c =
    let p : a.instructions + b.instructions + c.instructions ≡ a.instructions + (b.instructions + c.instructions) = omega arith in
    let q : a.instructions_run + b.instructions_run + c.instructions_run ≡ a.instructions_run + (b.instructions_run + c.instructions_run) = omega arith in
    let r : a.branches_both_ways + b.branches_both_ways + c.branches_both_ways
    ≡ a.branches_both_ways + (b.branches_both_ways + c.branches_both_ways) = omega arith in
    let s : a.branches_one_way + b.branches_one_way + c.branches_one_way ≡ a.branches_one_way + (b.branches_one_way + c.branches_one_way) = omega arith in
    let t : a.branches_never + b.branches_never + c.branches_never ≡ a.branches_never + (b.branches_never + c.branches_never) = omega arith in
    λ i. record {
      instructions = p i;
      instructions_run = q i;
      branches_both_ways = r i;
      branches_one_way = s i;
      branches_never = t i;
    }

pub plus_none : (a : CodeTotals) → plus a no_totals ≡ a
plus_none a =
    let p : a.instructions + 0 ≡ a.instructions = omega arith in
    let q : a.instructions_run + 0 ≡ a.instructions_run = omega arith in
    let r : a.branches_both_ways + 0 ≡ a.branches_both_ways = omega arith in
    let s : a.branches_one_way + 0 ≡ a.branches_one_way = omega arith in
    let t : a.branches_never + 0 ≡ a.branches_never = omega arith in
    λ i. record {
      instructions = p i;
      instructions_run = q i;
      branches_both_ways = r i;
      branches_one_way = s i;
      branches_never = t i;
    }

-- so many codes are counted in 64 bits
pub codes_fit : (counts : List AddressCounts) (ps : List AddressedCode) → length ps < 2 ^ 64 → FitsIn64Bits (totals_of_codes counts ps)
codes_fit counts ps few = record {
  instructions = let l = count_by-le-length is_instruction ps in omega (arith, l, few);
  instructions_run = let l = count_by-le-length (is_executed_instruction counts) ps in omega (arith, l, few);
  branches_both_ways = let l = count_by-le-length (is_branch_both_ways counts) ps in omega (arith, l, few);
  branches_one_way = let l = count_by-le-length (is_branch_one_way counts) ps in omega (arith, l, few);
  branches_never = let l = count_by-le-length (is_branch_never counts) ps in omega (arith, l, few);
}

-- what is a part of it, too
pub part_fits : (a b : CodeTotals) → FitsIn64Bits (plus a b) → FitsIn64Bits a
part_fits a b f = record {
  instructions = let l = f.instructions in omega (arith, l);
  instructions_run = let l = f.instructions_run in omega (arith, l);
  branches_both_ways = let l = f.branches_both_ways in omega (arith, l);
  branches_one_way = let l = f.branches_one_way in omega (arith, l);
  branches_never = let l = f.branches_never in omega (arith, l);
}
