use Rattle.std.proofs.Common.{◌<◌, ap, arith, get_or, length, sym}
use Rattle.std.proofs.lemmas.List.{get_or_default}
use Rattle.rv_count_tables.specs.declared.table.AddressCounts.{AddressCounts}
use Rattle.rv_count_tables.proofs.Lookups.{IsPlaceOf, none_at, strictly, those_at}
use Rattle.rv_count_tables.proofs.lookup.counts_at.Goals as goal
use Rattle.rv_count_tables.proofs.lookup.counts_at.Goals.{else-index-counts-via-then-index-counts+else-counts-index, else-index-counts-via-else-index-counts}

abbrev empty_entry : AddressCounts
empty_entry = record { address = 0; executed = 0; taken = 0 }

pub returns-then-counts-index : goal.returns-then-counts-index
returns-then-counts-index c =
    let place : IsPlaceOf c.args.address c.args.counts.now c.index_of_address-index.result = record {
      within = c.index_of_address-index.ensures.within;
      lower = c.index_of_address-index.ensures.lower;
      higher = c.index_of_address-index.ensures.higher;
    } in
    let those = those_at c.args.address 0 c.args.counts.now c.index_of_address-index.result empty_entry c.requires place
    c.if-index-counts.true c.if-counts-index.true in
    λ i. record { address = c.if-counts-index.true i; executed = sym those.0 i; taken = sym those.1 i }

pub returns : goal.returns
returns c =
    let place : IsPlaceOf c.args.address c.args.counts.now c.index_of_address-index.result = record {
      within = c.index_of_address-index.ensures.within;
      lower = c.index_of_address-index.ensures.lower;
      higher = c.index_of_address-index.ensures.higher;
    } in
    let cs = c.args.counts.now in
    let n = c.index_of_address-index.result in
    let above : (d : AddressCounts) → n < length cs → c.args.address < (get_or cs n d).address =
    elim c.else-index-counts.branch [
      | else-index-counts-via-then-index-counts+else-counts-index w ↦ λ d l.
          let same = ap (λ (e : AddressCounts). e.address) (get_or_default cs n d empty_entry l) in
          let strict = strictly c.args.address (get_or cs n empty_entry).address (place.higher empty_entry l) w.if-counts-index.false in
          omega (arith, same, strict)
      | else-index-counts-via-else-index-counts w ↦ λ d l. let f = w.if-index-counts.false in absurd (omega (arith, f, l))
    ] in
    let none = none_at c.args.address 0 cs n c.requires place above in
    λ i. record { address = c.args.address; executed = sym none.0 i; taken = sym none.1 i }
