use Rattle.std.proofs.Common.{◌≡◌, ◌∙◌, ◌∷◌, ◌++◌, [], ℕ, Vec, Global, ap, sym, subst, arith, ◌<◌, length}
use Rattle.std.specs.List.{All}
use Rattle.std.specs.List.Sorted.{IsStrictlyIncreasing}
use Rattle.rv_jobs.specs.Selection.{selected_indices}
use Rattle.rv_jobs.proofs.Choosing.{one_marked, none_marked, marked_within, marked_rising}
use Rattle.rv_jobs.proofs.selection.selected_indices.Goals.{then-selection-index+in_ok-push, else-selection-index}
use Rattle.rv_jobs.proofs.selection.selected_indices.Goals as goal

pub loop-index-preserved : goal.loop-index-preserved
loop-index-preserved c =
    let place = c.loop-index.index in
    let had = c.loop-index.invariant in
    elim c.if-selection-index.branch [
      | then-selection-index+in_ok-push w ↦
          ap (λ (v : Vec ℕ Global). v.items) w.indices-is ∙ (w.in_ok-push.ensures.items ∙ (ap (λ l. l ++ place ∷ []) had
          ∙ sym (one_marked c.args.selection.now place w.if-selection-index.true)))
      | else-selection-index w ↦
          ap (λ (v : Vec ℕ Global). v.items) w.indices-is
          ∙ (had ∙ sym (none_marked c.args.selection.now place w.if-selection-index.false))
    ]

pub returns-clause-within : goal.returns-clause-within
returns-clause-within c =
    let last : c.loop-index.index ≡ length c.args.selection.now = omega arith in
    subst (All (λ place. place < length c.args.selection.now))
    (sym (c.loop-index.invariant ∙ ap (selected_indices c.args.selection.now) last))
    (marked_within c.args.selection.now (length c.args.selection.now))

pub returns-clause-increasing : goal.returns-clause-increasing
returns-clause-increasing c =
    subst IsStrictlyIncreasing (sym c.loop-index.invariant) (marked_rising c.args.selection.now c.loop-index.index)
