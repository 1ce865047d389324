-- The symbol before the partition point is the answer, where it is in one segment with the address.
use Rattle.std.proofs.Common.{◌∙◌, ◌-◌, ◌<◌, List, get_or, leb, refl, rules, sym, ap, subst, arith}
use Rattle.std.specs.List.Sorted.{IsNonDecreasingBy}
use Rattle.std.proofs.lemmas.List.Sorted.{IsPartitionPoint-from_clause, IsPartitionedBy-leb}
use Rattle.rv_elf.specs.declared.code_symbols.CodeSymbol.{CodeSymbol}
use Rattle.rv_elf.specs.declared.image.Segment.{Segment}
use Rattle.rv_elf.specs.CodeSymbols.{HaveNames, AgreeWithSymbolAt}
use Rattle.rv_elf.specs.SymbolSearch.{are_in_one_segment}
use Rattle.rv_elf.proofs.CodeRanks.{in_other_segment, in_this_segment, nothing_below}
use Rattle.rv_elf.proofs.code_symbols.CodeSymbols.nearest_symbol.Goals as goal

abbrev none : CodeSymbol
none = record { rank = 0; value = 0; name = 0 }

pub returns-then-above-eq0 : goal.returns-then-above-eq0
returns-then-above-eq0 c =
    let self = c.args.self.now in
    let xs = c.as_slice-symbols.result.now in
    let above = c.partition_point-above.result in
    let same = sym c.as_slice-symbols.ensures.value in
    let rising = subst (λ (l : List CodeSymbol). IsNonDecreasingBy (λ s. s.value) l) same self.rising in
    let agree_with_symbol_at = subst (λ (l : List CodeSymbol). AgreeWithSymbolAt self.image.now self.bytes.now self.strings.now l) same self.agree_with_symbol_at in
    let point = IsPartitionPoint-from_clause (λ s. leb s.value c.args.addr) xs above c.partition_point-above.ensures.partitioned
    (IsPartitionedBy-leb (λ s. s.value) xs c.args.addr rising) (λ a r q k. search rules) in
    nothing_below self.image.now self.bytes.now self.strings.now xs agree_with_symbol_at c.args.addr above none
    c.partition_point-above.ensures.bound point c.if-above-eq0.true

pub returns-then-not-are_in_one_segment : goal.returns-then-not-are_in_one_segment
returns-then-not-are_in_one_segment c =
    let self = c.args.self.now in
    let xs = c.as_slice-symbols.result.now in
    let above = c.partition_point-above.result in
    let same = sym c.as_slice-symbols.ensures.value in
    let rising = subst (λ (l : List CodeSymbol). IsNonDecreasingBy (λ s. s.value) l) same self.rising in
    let agree_with_symbol_at = subst (λ (l : List CodeSymbol). AgreeWithSymbolAt self.image.now self.bytes.now self.strings.now l) same self.agree_with_symbol_at in
    let point = IsPartitionPoint-from_clause (λ s. leb s.value c.args.addr) xs above c.partition_point-above.ensures.partitioned
    (IsPartitionedBy-leb (λ s. s.value) xs c.args.addr rising) (λ a r q k. search rules) in
    let some : 0 < above = let other = c.if-above-eq0.false in omega (arith, other) in
    let s = get_or xs (above - 1) none in
    in_other_segment self.image.now self.bytes.now self.strings.now xs agree_with_symbol_at c.args.addr above none
    c.partition_point-above.ensures.bound point some s refl
    (ap (λ (ss : List Segment). are_in_one_segment ss s.value c.args.addr) (sym c.as_slice.ensures)
    ∙ sym c.are_in_one_segment.ensures ∙ c.if-not-are_in_one_segment.true)

pub returns : goal.returns
returns c =
    let self = c.args.self.now in
    let xs = c.as_slice-symbols.result.now in
    let above = c.partition_point-above.result in
    let same = sym c.as_slice-symbols.ensures.value in
    let rising = subst (λ (l : List CodeSymbol). IsNonDecreasingBy (λ s. s.value) l) same self.rising in
    let named = subst (λ (l : List CodeSymbol). HaveNames self.strings.now l) same self.named in
    let agree_with_symbol_at = subst (λ (l : List CodeSymbol). AgreeWithSymbolAt self.image.now self.bytes.now self.strings.now l) same self.agree_with_symbol_at in
    let point = IsPartitionPoint-from_clause (λ s. leb s.value c.args.addr) xs above c.partition_point-above.ensures.partitioned
    (IsPartitionedBy-leb (λ s. s.value) xs c.args.addr rising) (λ a r q k. search rules) in
    let some : 0 < above = let other = c.if-above-eq0.false in omega (arith, other) in
    let s = get_or xs (above - 1) none in
    in_this_segment self.image.now self.bytes.now self.strings.now xs agree_with_symbol_at c.args.addr above none
    c.partition_point-above.ensures.bound point some s refl
    (ap (λ (ss : List Segment). are_in_one_segment ss s.value c.args.addr) (sym c.as_slice.ensures)
    ∙ sym c.are_in_one_segment.ensures ∙ c.if-not-are_in_one_segment.false) named
