use Rattle.std.proofs.Common.{codes}
use Rattle.rv_text.proofs.Public.{told}
use Rattle.rv_text.specs.Numbers.{exit_code_text}
use Rattle.rv_job_text.specs.UnmetLines.{row_end_text}
use Rattle.rv_job_text.proofs.Told.{ended_told, refused_told}
use Rattle.rv_job_text.proofs.unmet_line.push_row_end.Goals as goal

pub returns-in-Exit : goal.returns-in-Exit
unfolding row_end_text
returns-in-Exit c =
    rw c.in-Exit.is
    (told _ _ _ _ _ (ended_told c.args.before.now (codes "ended with exit ") (exit_code_text c.in-Exit.code)) c.push_spans.ensures)

pub returns-in-Fault : goal.returns-in-Fault
unfolding row_end_text
returns-in-Fault c =
    rw (c.in-Fault.is, ← c.name.ensures)
    (told _ _ _ _ _ (ended_told c.args.before.now (codes "ended with fault ") c.name.result.now) c.push_spans-in-Fault.ensures)

pub returns-in-Budget : goal.returns-in-Budget
unfolding row_end_text
returns-in-Budget c = rw c.in-Budget.is c.push_spans-in-Budget.ensures

pub returns-in-Refused : goal.returns-in-Refused
unfolding row_end_text
returns-in-Refused c =
    rw (c.in-Refused.is, ← c.name-in-Refused.ensures)
    (told _ _ _ _ _ (refused_told c.args.before.now (codes "was refused (") c.name-in-Refused.result.now (codes ")"))
    c.push_spans-in-Refused.ensures)
