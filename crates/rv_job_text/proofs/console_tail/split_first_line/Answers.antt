use Rattle.std.proofs.Common.{◌≡◌, ◌<◌, arith, length}
use Rattle.std.proofs.lemmas.Grind.{common_steps}
use Rattle.rv_job_text.proofs.ConsoleLines.{lines_of-empty, lines_of-front}
use Rattle.rv_job_text.proofs.console_tail.split_first_line.Goals as goal

pub returns-then-is_empty-clause-lines : goal.returns-then-is_empty-clause-lines
returns-then-is_empty-clause-lines c =
    let empty : length c.args.text.now ≡ 0 = grind (arith, common_steps) in
    lines_of-empty c.args.text.now empty

pub returns-clause-lines : goal.returns-clause-lines
returns-clause-lines c =
    let some : 0 < length c.args.text.now = grind (arith, common_steps) in
    cc (lines_of-front c.args.text.now some, c.first_line_len-len.ensures.len, c.tail_from.ensures)
