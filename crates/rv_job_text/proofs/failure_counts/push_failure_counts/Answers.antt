use Rattle.std.proofs.Common.{◌≡◌, ◌∙◌, ◌++◌, ◌==◌, ℕ, ap, append-nil, append_assoc, arith, cond, length}
use Rattle.std.proofs.Common.{refl, sym}
use Rattle.std.specs.Fmt.{decimal}
use Rattle.std.specs.Prelude.{codes, not}
use Rattle.rv_expect.specs.declared.failure_kind.FailureKind.{FailureKind}
use Rattle.rv_expect.specs.FailureKinds.{failure_kind_at, failure_kind_count}
use Rattle.rv_job_text.specs.TotalsLine.{failure_count, failure_kind_name, failure_texts_below, open_bracket_text}
use Rattle.rv_job_text.proofs.Counts.{bracket-closed, bracket-none, failure_texts_below-none, failure_texts_below-some, is_begun, opened-more}
use Rattle.rv_job_text.proofs.failure_counts.push_failure_counts.Goals as goal
use Rattle.rv_job_text.proofs.failure_counts.push_failure_counts.Goals.{else-count-gt0, then-count-gt0+in_ok-push_failure_count}

pub loop-index-init : goal.loop-index-init
unfolding failure_texts_below
loop-index-init c = record { begun = refl; text = sym (append-nil c.args.bytes.now.items) }

pub loop-index-preserved : goal.loop-index-preserved
loop-index-preserved c =
    let count : FailureKind → ℕ = failure_count c.args.failures.now in
    let index = c.loop-index.index in
    let how = failure_kind_at index in
    let texts = failure_texts_below count index in
    let text = decimal (count how) ++ codes " " ++ failure_kind_name how in
    let counted = c.failure_count-count.ensures ∙ ap count c.from_index-kind.ensures in
    let named = ap failure_kind_name c.from_index-kind.ensures in
    elim c.if-count-gt0.branch [
      | then-count-gt0+in_ok-push_failure_count w ↦
          let more = failure_texts_below-some count index (omega (arith, counted, w.if-count-gt0.true)) in
          record {
            begun = w.is_open-is ∙ is_begun texts text ∙ ap (λ xs. not (length xs == 0)) (sym more);
            text = rw w.bytes-is (cc (
              w.in_ok-push_failure_count.ensures,
              counted,
              named,
              more,
              opened-more texts text,
              c.loop-index.invariant.text,
              c.loop-index.invariant.begun,
              append_assoc c.args.bytes.now.items (open_bracket_text texts)
                  (cond (not (length texts == 0)) (codes ", ") (codes " (") ++ text),
            ));
          }
      | else-count-gt0 w ↦
          let same = failure_texts_below-none count index (omega (arith, counted, w.if-count-gt0.false)) in
          record {
            begun = w.is_open-is ∙ c.loop-index.invariant.begun ∙ ap (λ xs. not (length xs == 0)) (sym same);
            text = rw w.bytes-is (c.loop-index.invariant.text
                ∙ ap (λ xs. c.args.bytes.now.items ++ open_bracket_text xs) (sym same));
          }
    ]

pub returns-in_ok-extend_from_slice : goal.returns-in_ok-extend_from_slice
returns-in_ok-extend_from_slice c =
    let all : c.loop-index.index ≡ failure_kind_count = omega arith in
    rw (← all) (bracket-closed _ _ _ _ _ c.loop-index.invariant.begun c.if-is_open.true c.loop-index.invariant.text
    c.in_ok-extend_from_slice.ensures.items)

pub returns-else-is_open : goal.returns-else-is_open
returns-else-is_open c =
    let all : c.loop-index.index ≡ failure_kind_count = omega arith in
    rw (← all) (bracket-none _ _ _ _ c.loop-index.invariant.begun c.if-is_open.false c.loop-index.invariant.text)
