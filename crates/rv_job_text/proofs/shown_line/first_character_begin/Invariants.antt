use Rattle.std.proofs.Common.{◌≡◌, ◌<◌, ℕ, false, get_or}
use Rattle.rv_job_text.specs.ConsoleLines.{begins_character}
use Rattle.rv_job_text.proofs.shown_line.first_character_begin.Given as goal

abbrev pub invariant-loop-offset : goal.invariant-loop-offset
invariant-loop-offset l = (k : ℕ) → k < l.offset → begins_character (get_or l.text k 0) ≡ false
