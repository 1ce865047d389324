-- Each word stands behind the one in front.
use Rattle.std.proofs.lemmas.Result.{on_ok_weaker}
use Rattle.rv_count_tables.proofs.SpotIndexes.{words_pushed}
use Rattle.rv_count_tables.proofs.text.push_fields_with_digits.Goals as goal

pub returns : goal.returns
returns c =
    on_ok_weaker c.push_number-3.result
    (words_pushed _ _ _ _ _ _ c.args.digits.now c.args.node c.in_ok-push_str.ensures.bytes c.in_ok-push_number.ensures
    c.in_ok-push_field.ensures c.in_ok-push_number-2.ensures)
    c.push_number-3.ensures
