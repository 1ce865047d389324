use Rattle.std.proofs.Common.{◌∙◌, ap, Some}
use Rattle.std.specs.Prelude.{option_and_then}
use Rattle.toml.specs.Data.{as_str}
use Rattle.toml.specs.View.{view}
use Rattle.toml.proofs.Views.{get_item_within}
use Rattle.rv_lists.proofs.signature.element_text.Goals as goal

pub returns : goal.returns
returns c =
    c.as_str.ensures ∙ ap (option_and_then as_str)
    (ap (λ v. Some (view v)) c.index-values-index.is
    ∙ get_item_within c.args.values.now c.args.index c.index-values-index.result c.requires)
