use Rattle.std.proofs.Common.{◌∙◌, ap, false}
use Rattle.std.specs.List.{list_any}
use Rattle.std.specs.Option.{option_map_or}
use Rattle.toml.specs.View.{view}
use Rattle.rv_lists.specs.Keys.{any_item, region_has_unknown_key}
use Rattle.rv_lists.proofs.Entries.{any_value}
use Rattle.rv_lists.proofs.value_types.job_has_unknown_region_key.Goals as goal

pub returns-in-Some : goal.returns-in-Some
returns-in-Some c =
    c.any_region_has_unknown_key.ensures
    ∙ ap (list_any (λ v. region_has_unknown_key (view v))) c.as_slice.ensures.value
    ∙ any_value region_has_unknown_key c.in-Some.regions.now.items
    ∙ ap (λ o. option_map_or (any_item region_has_unknown_key) o false) c.in-Some.ensures
