use Rattle.std.proofs.Common.{◌≡◌, ◌∙◌, ◌++◌, ◌-◌, ◌<◌, [], sym, ap, length, arith, append-nil, append_assoc}
use Rattle.std.proofs.lemmas.Grind.{common_steps}
use Rattle.rv_job_text.specs.ConsoleLines.{diff_line, diff_lines, complete_lines}
use Rattle.rv_job_text.proofs.DifferingLines.{diff_lines-end, diff_lines-next, diff_lines-none, split_behind, split_front, complete_lines-nil}
use Rattle.rv_job_text.proofs.console_lines.push_diff_lines.Goals as goal

pub loop-left-preserved : goal.loop-left-preserved
loop-left-preserved c =
    let margin = c.args.margin.now in
    let left = c.loop-left.left in
    let own = c.loop-left.own.now in
    let other = c.loop-left.other.now in
    let o = c.split_whole_line in
    let b = c.split_whole_line-in-loop-left in
    let some : 0 < length own = grind (arith, common_steps) in
    let front = split_front other b.result.0.now b.result.1.now b.ensures.some b.ensures.none in
    let behind = split_behind other b.result.0.now b.result.1.now b.ensures.some b.ensures.none in
    let rest = diff_lines margin (left - 1) (complete_lines o.result.1.now) (complete_lines b.result.1.now) in
    let next : diff_lines margin left (complete_lines own) (complete_lines other)
    ≡ diff_line margin o.result.0.now b.result.0.now ++ rest =
    rw (o.ensures.some some, front, behind)
    (diff_lines-next margin left o.result.0.now (complete_lines o.result.1.now) (complete_lines other) (omega arith)) in
    ap (λ text. text ++ rest) c.in_ok-push_diff_line.ensures
    ∙ append_assoc c.loop-left.bytes.items (diff_line margin o.result.0.now b.result.0.now) rest ∙ ap (λ text. c.loop-left.bytes.items ++ text) (sym next) ∙ c.loop-left.invariant

pub returns-else-not-is_empty : goal.returns-else-not-is_empty
returns-else-not-is_empty c =
    let own = c.loop-left.own.now in
    let margin = c.args.margin.now in
    let others = complete_lines c.loop-left.other.now in
    let empty : length own ≡ 0 = grind (arith, common_steps) in
    let none : diff_lines margin c.loop-left.left (complete_lines own) others ≡ [] =
    ap (λ lines. diff_lines margin c.loop-left.left lines others) (complete_lines-nil own empty)
    ∙ diff_lines-end margin c.loop-left.left others in
    sym (ap (λ text. c.loop-left.bytes.items ++ text) none ∙ append-nil c.loop-left.bytes.items) ∙ c.loop-left.invariant

pub returns-after-loop-left : goal.returns-after-loop-left
returns-after-loop-left c =
    let own = complete_lines c.loop-left.own.now in
    let margin = c.args.margin.now in
    let others = complete_lines c.loop-left.other.now in
    let done : c.loop-left.left ≡ 0 = omega arith in
    let none : diff_lines margin c.loop-left.left own others ≡ [] =
    ap (λ left. diff_lines margin left own others) done ∙ diff_lines-none margin own others in
    sym (ap (λ text. c.loop-left.bytes.items ++ text) none ∙ append-nil c.loop-left.bytes.items) ∙ c.loop-left.invariant
