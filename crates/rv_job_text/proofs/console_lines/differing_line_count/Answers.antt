use Rattle.std.proofs.Common.{◌≡◌, ◌∙◌, ◌+◌, ◌-◌, refl, sym, ap, false, true≢false, drop, arith}
use Rattle.std.proofs.lemmas.Slice.Eq.{bytes_eq-Decides}
use Rattle.std.specs.Str.{bytes_eq}
use Rattle.rv_job_text.specs.ConsoleLines.{differing_line_count, first_or_empty, complete_lines}
use Rattle.rv_job_text.proofs.DifferingLines.{differing_next, differing_none, differing_stops, equal_bytes, split_behind, split_front}
use Rattle.rv_job_text.proofs.console_lines.differing_line_count.Goals as goal

pub returns-then-eq : goal.returns-then-eq
returns-then-eq c =
    let actual = c.loop-count.actual.now in
    let expected = c.loop-count.expected.now in
    let m = c.split_whole_line in
    let w = c.split_whole_line-in-loop-count in
    let alike = (bytes_eq-Decides m.result.0.now w.result.0.now).0 (sym c.eq.ensures ∙ c.if-eq.true) in
    let same : first_or_empty (complete_lines actual) ≡ first_or_empty (complete_lines expected) =
    sym (split_front actual m.result.0.now m.result.1.now m.ensures.some m.ensures.none) ∙ alike
    ∙ split_front expected w.result.0.now w.result.1.now w.ensures.some w.ensures.none in
    let none = differing_stops (c.args.most - c.loop-count.count) (complete_lines actual) (complete_lines expected) same in
    let kept = c.loop-count.invariant.counted in
    omega arith

pub loop-count-preserved : goal.loop-count-preserved
loop-count-preserved c =
    let actual = c.loop-count.actual.now in
    let expected = c.loop-count.expected.now in
    let m = c.split_whole_line in
    let w = c.split_whole_line-in-loop-count in
    let unlike : bytes_eq m.result.0.now w.result.0.now ≡ false = sym c.eq.ensures ∙ c.if-eq.false in
    let front_m = split_front actual m.result.0.now m.result.1.now m.ensures.some m.ensures.none in
    let front_w = split_front expected w.result.0.now w.result.1.now w.ensures.some w.ensures.none in
    let behind_m = split_behind actual m.result.0.now m.result.1.now m.ensures.some m.ensures.none in
    let behind_w = split_behind expected w.result.0.now w.result.1.now w.ensures.some w.ensures.none in
    let most = c.args.most in
    let count = c.loop-count.count in
    let next = differing_next (most - count) (complete_lines actual) (complete_lines expected) (omega arith)
    (λ same. true≢false (sym (equal_bytes _ _ (front_m ∙ same ∙ sym front_w)) ∙ unlike)) in
    let left : most - (count + 1) ≡ most - count - 1 = omega arith in
    let rest : differing_line_count (most - (count + 1)) (complete_lines m.result.1.now) (complete_lines w.result.1.now)
    ≡ differing_line_count (most - count - 1) (drop 1 (complete_lines actual)) (drop 1 (complete_lines expected)) =
    rw (left, behind_m, behind_w) refl in
    let kept = c.loop-count.invariant.counted in
    record { counted = omega arith; within = omega arith }

pub returns : goal.returns
returns c =
    let actual = complete_lines c.loop-count.actual.now in
    let expected = complete_lines c.loop-count.expected.now in
    let left : c.args.most - c.loop-count.count ≡ 0 = omega arith in
    let none = ap (λ n. differing_line_count n actual expected) left ∙ differing_none actual expected in
    let kept = c.loop-count.invariant.counted in
    let within = c.loop-count.invariant.within in
    omega arith
