use Rattle.std.proofs.Common.{◌∙◌, ◌*◌, sym, refl, true, false}
use Rattle.std.proofs.lemmas.Bool.{and_from, and_left, and_right}
use Rattle.rv_elf.specs.Sections.{symbol_at_offset}
use Rattle.rv_elf.specs.SymbolSearch.{is_candidate, nearest_candidate}
use Rattle.rv_elf.proofs.Ranking.{one_more}
use Rattle.rv_elf.proofs.CurrentVerdict.{candidate_below}
use Rattle.rv_elf.proofs.symbol_search.nearest_candidate.Goals as goal
use Rattle.rv_elf.proofs.symbol_search.nearest_candidate.Goals.{then-is_nearer_than_best+then-is_candidate, else-is_nearer_than_best}
use Rattle.rv_elf.proofs.symbol_search.nearest_candidate.Goals.{else-is_nearer_than_best-via-then-is_nearer_than_best+else-is_candidate}
use Rattle.rv_elf.proofs.symbol_search.nearest_candidate.Goals.{else-is_nearer_than_best-via-else-is_nearer_than_best}

pub loop-k-init : goal.loop-k-init
unfolding nearest_candidate
loop-k-init c = record { best_so_far = refl; below = tt }

pub loop-k-preserved : goal.loop-k-preserved
loop-k-preserved c =
    let p = is_candidate c.args.kind c.args.segments.now c.args.strings.now c.args.addr in
    let more = one_more p (λ j. symbol_at_offset c.args.table.now (16 * j)) c.loop-k.k c.symbol_at_offset-symbol.result
    c.loop-k.best in
    elim c.if-is_nearer_than_best.branch [
      | then-is_nearer_than_best+then-is_candidate w ↦
          let passes = sym w.is_candidate.ensures ∙ w.if-is_candidate.true in
          record {
            best_so_far = w.best-is ∙ more true c.symbol_at_offset-symbol.ensures c.loop-k.invariant.best_so_far
                (and_from _ _ (sym c.is_nearer_than_best.ensures ∙ w.if-is_nearer_than_best.true) passes);
            below = rw w.best-is (candidate_below c.args.kind c.args.segments.now c.args.strings.now c.args.addr
                c.symbol_at_offset-symbol.result passes);
          }
      | else-is_nearer_than_best w ↦ record {
        best_so_far = w.best-is ∙ more false c.symbol_at_offset-symbol.ensures c.loop-k.invariant.best_so_far
            (elim w.else-is_nearer_than_best.branch [
              | else-is_nearer_than_best-via-then-is_nearer_than_best+else-is_candidate v ↦
                  and_right _ _ (sym v.is_candidate.ensures ∙ v.if-is_candidate.false)
              | else-is_nearer_than_best-via-else-is_nearer_than_best v ↦ and_left _ _ (sym c.is_nearer_than_best.ensures ∙ v.if-is_nearer_than_best.false)
            ]);
        below = rw w.best-is c.loop-k.invariant.below;
      }
    ]
