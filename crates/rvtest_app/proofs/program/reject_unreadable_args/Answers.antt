use Rattle.std.proofs.Common.{◌∙◌}
use Rattle.rvtest_app.proofs.UnreadableWords.{told_as_no_text}
use Rattle.rvtest_app.proofs.program.reject_unreadable_args.Goals as goal

pub returns-in_default-clause-reported : goal.returns-in_default-clause-reported
returns-in_default-clause-reported g c =
    told_as_no_text _ _ _ _ _ (λ is. c.in_default.not-OutOfMemory (c.kind.ensures ∙ is)) c.write_message.ensures
