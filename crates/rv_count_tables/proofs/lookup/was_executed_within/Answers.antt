use Rattle.std.proofs.Common.{◌∙◌, ◌&&◌, ap, get_or, length, ltb, sym}
use Rattle.std.proofs.lemmas.Bool.{lt-ltb, le-ltb}
use Rattle.rv_count_tables.specs.declared.table.AddressCounts.{AddressCounts}
use Rattle.rv_count_tables.proofs.Lookups.{IsPlaceOf, any_within}
use Rattle.rv_count_tables.proofs.lookup.was_executed_within.Goals as goal

abbrev empty_entry : AddressCounts
empty_entry = record { address = 0; executed = 0; taken = 0 }

pub returns-then-index-counts : goal.returns-then-index-counts
returns-then-index-counts c =
    let cs = c.args.counts.now in
    let n = c.index_of_address-index.result in
    let place : IsPlaceOf c.args.start cs n = record {
      within = c.index_of_address-index.ensures.within;
      lower = c.index_of_address-index.ensures.lower;
      higher = c.index_of_address-index.ensures.higher;
    } in
    ap (λ at. ltb at c.args.end) c.from.ensures
    ∙ sym (any_within c.args.start c.args.end 0 cs n empty_entry c.requires place
    ∙ ap (λ b. b && ltb (get_or cs n empty_entry).address c.args.end) (lt-ltb n (length cs) c.if-index-counts.true))

pub returns-else-index-counts : goal.returns-else-index-counts
returns-else-index-counts c =
    let cs = c.args.counts.now in
    let n = c.index_of_address-index.result in
    let place : IsPlaceOf c.args.start cs n = record {
      within = c.index_of_address-index.ensures.within;
      lower = c.index_of_address-index.ensures.lower;
      higher = c.index_of_address-index.ensures.higher;
    } in
    le-ltb n (length cs) c.if-index-counts.false
    ∙ sym (any_within c.args.start c.args.end 0 cs n empty_entry c.requires place
    ∙ ap (λ b. b && ltb (get_or cs n empty_entry).address c.args.end) (le-ltb n (length cs) c.if-index-counts.false))
