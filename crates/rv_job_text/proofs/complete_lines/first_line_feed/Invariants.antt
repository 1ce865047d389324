use Rattle.std.proofs.Common.{◌≡◌, ◌<◌, ℕ, false, get_or}
use Rattle.rv_job_text.specs.ConsoleTail.{is_line_feed}
use Rattle.rv_job_text.proofs.complete_lines.first_line_feed.Given as goal

abbrev pub invariant-loop-offset : goal.invariant-loop-offset
invariant-loop-offset l = (k : ℕ) → k < l.offset → is_line_feed (get_or l.text k 0) ≡ false
