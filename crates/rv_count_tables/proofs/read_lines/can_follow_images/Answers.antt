-- The last image before decides.
use Rattle.std.proofs.Common.{◌∙◌, None, ap}
use Rattle.rv_count_tables.specs.Table.{is_before}
use Rattle.rv_count_tables.proofs.ReadingLines.{last_of, follows, all_fit}
use Rattle.rv_count_tables.proofs.read_lines.can_follow_images.Goals as goal

pub returns-in-Some-clause-value : goal.returns-in-Some-clause-value
returns-in-Some-clause-value c =
    follows _ _ c.in-Some.last.now.digest _
    (c.is_before.ensures ∙ ap (λ s. is_before s c.args.digest.now) c.as_slice.ensures)
    (last_of None c.args.earlier.now c.in-Some.last.now c.in-Some.ensures.value) c.if-digest-eq32.true

pub returns-in-Some-clause-bytes : goal.returns-in-Some-clause-bytes
returns-in-Some-clause-bytes c = all_fit _ c.type_inv.digest
