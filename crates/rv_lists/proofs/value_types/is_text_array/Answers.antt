use Rattle.std.proofs.Common.{◌∙◌, sym, ap}
use Rattle.std.specs.List.{list_all}
use Rattle.toml.specs.View.{view, items_view}
use Rattle.rv_lists.specs.Keys.{is_text, is_text_array}
use Rattle.rv_lists.proofs.Entries.{all_values, is_array}
use Rattle.rv_lists.proofs.value_types.is_text_array.Goals as goal

pub returns-in-Some : goal.returns-in-Some
returns-in-Some c =
    let items = items_view c.in-Some.texts.now.items in
    c.are_all_texts.ensures
    ∙ ap (list_all (λ v. is_text (view v))) c.as_slice.ensures.value
    ∙ all_values is_text c.in-Some.texts.now.items
    ∙ sym (ap is_text_array (is_array (view c.args.value.now) items c.in-Some.ensures))
