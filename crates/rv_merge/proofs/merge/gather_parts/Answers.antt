use Rattle.std.proofs.Common.{◌≡◌, ℕ, arith, refl, subst, length}
use Rattle.rv_merge.specs.MergeState.{IsMergeStateAfter, report_of_part}
use Rattle.rv_merge.specs.Parts.{bytes_of_texts}
use Rattle.rv_merge.proofs.Gathering.{holds_none}
use Rattle.rv_merge.proofs.merge.gather_parts.Goals as goal

pub add_part-requires-clause-state : goal.add_part-requires-clause-state
add_part-requires-clause-state c =
    let g = c.in_ok-gathered.gathered in
    let part = c.in_ok-part.part in
    let text = c.in_ok-part.ensures.text in
    holds_none (bytes_of_texts c.args.texts.now) g.first part.shard g.sources.items g.slots.items
    (record { report = report_of_part part; saved = text.saved; text = text.text; extent = refl })
    c.in_ok-gathered.ensures.first c.in_ok-gathered.ensures.sources c.in_ok-gathered.ensures.slots

pub returns-clause-state : goal.returns-clause-state
returns-clause-state c =
    let last : c.loop-at.at ≡ length c.args.texts.now = omega arith in
    subst (λ (n : ℕ). IsMergeStateAfter (bytes_of_texts c.args.texts.now) n c.loop-at.gathered) last c.loop-at.invariant
