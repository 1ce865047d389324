use Rattle.rv_command.proofs.Public.{told_stop}
use Rattle.rvtest_app.proofs.merge.merge_error_stop.Goals as goal

pub returns-in-NoTexts : goal.returns-in-NoTexts
returns-in-NoTexts c = rw c.in-NoTexts.is (told_stop _ _ _ _ c.rejection.ensures c.text_of_spans.ensures)

pub returns-in-InvalidText : goal.returns-in-InvalidText
returns-in-InvalidText c =
    rw c.in-InvalidText.is
    (told_stop _ _ _ _ c.rejection-in-InvalidText.ensures (rw (c.part_path.ensures, c.part_text.ensures) at c.part_flaw_message.ensures))

pub returns-in-MissingShard : goal.returns-in-MissingShard
returns-in-MissingShard c =
    rw c.in-MissingShard.is (told_stop _ _ _ _ c.rejection-in-MissingShard.ensures c.missing_shard_message.ensures)
