use Rattle.std.proofs.Common.{◌∙◌, ◌+◌, ◌-◌, ◌<◌, ◌≤◌, ℕ, Some, List, Option, refl, sym, ap, arith, subst}
use Rattle.std.specs.Prelude.{slice_set, vec_len}
use Rattle.std.proofs.lemmas.Bool.{false≢true}
use Rattle.std.proofs.lemmas.Option.{same_Some}
use Rattle.rv_rows.specs.declared_row.Row.{Row}
use Rattle.rv_merge.specs.MergeState.{AreTextsAdded, filled_slots, report_of_part}
use Rattle.rv_merge.specs.Parts.{bytes_of_texts, nth_text}
use Rattle.rv_merge.proofs.Gathering.{are_two, has_other_run, holds_again, holds_more, number_within, read_none}
use Rattle.rv_merge.proofs.Gathering.{numbers_each, read_some, shard_within}
use Rattle.rv_merge.proofs.Texts.{length-bytes_of}
use Rattle.rv_merge.proofs.merge_state.add_part.Goals as goal

pub returns-in-Some-clause-error : goal.returns-in-Some-clause-error
returns-in-Some-clause-error c = (
  omega (arith, length-bytes_of c.args.texts.now, c.requires.index),
  has_other_run (bytes_of_texts c.args.texts.now) c.args.index c.args.state.now.first c.args.part.shard c.in-Some.flaw
      c.requires.state.first
      (record {
        report = report_of_part c.args.part;
        saved = c.requires.text.saved;
        text = c.requires.text.text;
        extent = refl;
      })
      c.in-Some.ensures,
)

pub overflow_sub-shard : goal.overflow_sub-shard
overflow_sub-shard c =
    let g = c.args.state.now in
    let p = c.args.part in
    let w = shard_within (bytes_of_texts c.args.texts.now) c.args.index g.first g.sources.items g.slots.items c.requires.state
    p.shard p.numbers p.rows c.requires.text c.in_default.ensures in
    omega (arith, w.0)

pub index-requires : goal.index-requires
index-requires c =
    let g = c.args.state.now in
    let p = c.args.part in
    let w = shard_within (bytes_of_texts c.args.texts.now) c.args.index g.first g.sources.items g.slots.items c.requires.state
    p.shard p.numbers p.rows c.requires.text c.in_default.ensures in
    omega (arith, w.0, w.1, g.sources.ok.0)

pub index_mut-requires : goal.index_mut-requires
index_mut-requires c =
    let g = c.args.state.now in
    let p = c.args.part in
    let w = shard_within (bytes_of_texts c.args.texts.now) c.args.index g.first g.sources.items g.slots.items c.requires.state
    p.shard p.numbers p.rows c.requires.text c.in_default.ensures in
    omega (arith, w.0, w.1, g.sources.ok.0)

pub fill_slots-requires-clause-numbers : goal.fill_slots-requires-clause-numbers
fill_slots-requires-clause-numbers c =
    let g = c.args.state.now in
    let p = c.args.part in
    let within = number_within (bytes_of_texts c.args.texts.now) c.args.index g.first g.sources.items g.slots.items
    c.requires.state p.shard p.numbers p.rows c.requires.text c.in_default.ensures in
    let long = g.slots.ok.0 in
    numbers_each (λ n. (0 < n) × (n ≤ vec_len g.slots)) c.as_slice.result.now p.numbers c.as_slice.ensures
    (λ q n there. let w = within q n there in (w.0, omega arith))

pub returns-in-None-clause-next_state : goal.returns-in-None-clause-next_state
returns-in-None-clause-next_state c =
    let g = c.args.state.now in
    let p = c.args.part in
    let none = read_none g.sources.items (p.shard.number - 1) c.index.result.now c.index.ensures c.in-None.is in
    let more = holds_more (bytes_of_texts c.args.texts.now) c.args.index g.first g.sources.items g.slots.items c.requires.state
    p.shard p.numbers p.rows c.requires.text c.in_default.ensures none in
    let rows = c.into_vec-rows.result.items in
    let is = c.fill_slots.ensures ∙ ap (λ (ns : List ℕ). filled_slots ns rows g.slots.items) c.as_slice.ensures
    ∙ ap (λ (rs : List Row). filled_slots p.numbers rs g.slots.items) c.into_vec-rows.ensures in
    subst (λ (slots : List (Option Row)). AreTextsAdded (bytes_of_texts c.args.texts.now) (c.args.index + 1) g.first
    (slice_set g.sources.items (p.shard.number - 1) (Some c.args.index)) slots) (sym is) more

pub are_same_texts-requires-clause-index : goal.are_same_texts-requires-clause-index
are_same_texts-requires-clause-index c =
    let g = c.args.state.now in
    let p = c.args.part in
    let w = shard_within (bytes_of_texts c.args.texts.now) c.args.index g.first g.sources.items g.slots.items c.requires.state
    p.shard p.numbers p.rows c.requires.text c.in_default.ensures in
    let some = read_some g.sources.items (p.shard.number - 1) c.index.result.now c.in-Some-index.earlier
    (omega (arith, w.0, w.1)) c.index.ensures c.in-Some-index.is in
    let from = c.requires.state.from (p.shard.number - 1) c.in-Some-index.earlier some in
    omega (arith, from.within, c.requires.index)

pub returns-in-Some-index-clause-next_state : goal.returns-in-Some-index-clause-next_state
returns-in-Some-index-clause-next_state c =
    let g = c.args.state.now in
    let p = c.args.part in
    let w = shard_within (bytes_of_texts c.args.texts.now) c.args.index g.first g.sources.items g.slots.items c.requires.state
    p.shard p.numbers p.rows c.requires.text c.in_default.ensures in
    let some = read_some g.sources.items (p.shard.number - 1) c.index.result.now c.in-Some-index.earlier
    (omega (arith, w.0, w.1)) c.index.ensures c.in-Some-index.is in
    holds_again (bytes_of_texts c.args.texts.now) c.args.index g.first g.sources.items g.slots.items c.requires.state
    (p.shard.number - 1) c.in-Some-index.earlier some (c.are_same_texts.ensures.0 c.if-are_same_texts.true)

pub returns-clause-error : goal.returns-clause-error
returns-clause-error c =
    let g = c.args.state.now in
    let p = c.args.part in
    let w = shard_within (bytes_of_texts c.args.texts.now) c.args.index g.first g.sources.items g.slots.items c.requires.state
    p.shard p.numbers p.rows c.requires.text c.in_default.ensures in
    let some = read_some g.sources.items (p.shard.number - 1) c.index.result.now c.in-Some-2.earlier
    (omega (arith, w.0, w.1)) c.index.ensures c.in-Some-2.is in
    let one = same_Some c.in-Some-index.earlier c.in-Some-2.earlier (sym c.in-Some-index.is ∙ c.in-Some-2.is) in (
      omega (arith, length-bytes_of c.args.texts.now, c.requires.index),
      are_two (bytes_of_texts c.args.texts.now) c.args.index g.first g.sources.items g.slots.items c.requires.state p.shard
          p.numbers p.rows c.requires.text c.in_default.ensures c.in-Some-2.earlier some
          (λ same. false≢true
          (sym c.if-are_same_texts.false ∙ c.are_same_texts.ensures.1 (ap (nth_text (bytes_of_texts c.args.texts.now)) one ∙ same))),
    )
