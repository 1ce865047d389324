use Rattle.std.proofs.Common.{◌∙◌}
use Rattle.std.specs.Str.{bytes_eq}
use Rattle.rv_choice.proofs.Names.{any_text}
use Rattle.rv_choice.proofs.selection.is_among_names.Goals as goal

pub returns : goal.returns
returns c = c.contains.ensures.value ∙ any_text (λ other. bytes_eq other c.args.name.now) c.args.names.now
