use Rattle.std.proofs.Common.{◌≡◌, ◌+◌, drop}
use Rattle.rv_job_text.specs.ConsoleLines.{characters_len}
use Rattle.rv_job_text.proofs.shown_line.characters_len.Given as goal

abbrev pub invariant-loop-offset : goal.invariant-loop-offset
invariant-loop-offset l = characters_len l.max_count l.text ≡ l.offset + characters_len l.remaining (drop l.offset l.text)
