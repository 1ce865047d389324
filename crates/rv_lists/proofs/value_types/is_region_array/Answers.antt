use Rattle.std.proofs.Common.{◌∙◌, sym, ap}
use Rattle.std.specs.List.{list_all}
use Rattle.toml.specs.View.{view, items_view}
use Rattle.rv_lists.specs.Keys.{is_region, is_region_array}
use Rattle.rv_lists.proofs.Entries.{all_values, is_array}
use Rattle.rv_lists.proofs.value_types.is_region_array.Goals as goal

pub returns-in-Some : goal.returns-in-Some
returns-in-Some c =
    let items = items_view c.in-Some.regions.now.items in
    c.are_all_regions.ensures
    ∙ ap (list_all (λ v. is_region (view v))) c.as_slice.ensures.value
    ∙ all_values is_region c.in-Some.regions.now.items
    ∙ sym (ap is_region_array (is_array (view c.args.value.now) items c.in-Some.ensures))
