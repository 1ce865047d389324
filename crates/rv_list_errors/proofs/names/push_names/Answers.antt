use Rattle.std.proofs.Common.{◌∙◌, sym}
use Rattle.rv_list_errors.proofs.NamesTold.{none_left, present_count, some_left}
use Rattle.rv_list_errors.proofs.names.push_names.Goals as goal

pub returns-then-listed_count-count : goal.returns-then-listed_count-count
returns-then-listed_count-count c =
    some_left c.args.message.now c.push_first_names-listed_count.new.message c.push_number_between.new.self _
    c.present_count-count.result c.push_first_names-listed_count.result
    (c.present_count-count.ensures ∙ sym (present_count c.args.names.now)) c.push_first_names-listed_count.ensures.listed_count
    c.if-listed_count-count.true c.push_first_names-listed_count.ensures.text c.push_number_between.ensures

pub returns-else-listed_count-count : goal.returns-else-listed_count-count
returns-else-listed_count-count c =
    none_left c.args.message.now c.push_first_names-listed_count.new.message _ c.present_count-count.result
    c.push_first_names-listed_count.result (c.present_count-count.ensures ∙ sym (present_count c.args.names.now))
    c.push_first_names-listed_count.ensures.listed_count c.if-listed_count-count.false c.push_first_names-listed_count.ensures.text
