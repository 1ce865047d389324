use Rattle.std.proofs.Common.{◌≡◌, ◌∙◌, ◌+◌, sym, take, drop, arith, drop_of_length-le, take_all}
use Rattle.rv_job_text.proofs.DifferingLines.{complete_lines-front}
use Rattle.rv_job_text.proofs.complete_lines.split_whole_line.Goals as goal

pub returns-then-feed-text-clause-some : goal.returns-then-feed-text-clause-some
returns-then-feed-text-clause-some c =
    λ some. cc (complete_lines-front c.args.text.now some, c.first_line_feed-feed.ensures.offset, c.tail_from.ensures)

pub returns-else-feed-text-clause-some : goal.returns-else-feed-text-clause-some
returns-else-feed-text-clause-some c =
    let text = c.args.text.now in
    let feed = c.first_line_feed-feed.result in
    let behind : c.tail_from-else-feed-text.result.now ≡ drop (feed + 1) text =
    c.tail_from-else-feed-text.ensures ∙ drop_of_length-le text (omega arith) ∙ sym (drop_of_length-le text (omega arith)) in
    let whole : take (feed + 1) text ≡ text = take_all (feed + 1) text (omega arith) in
    λ some. cc (complete_lines-front text some, c.first_line_feed-feed.ensures.offset, behind, whole)
