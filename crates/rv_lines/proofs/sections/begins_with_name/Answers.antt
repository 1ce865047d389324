use Rattle.std.proofs.Common.{◌∙◌, sym, ap, false}
use Rattle.std.specs.Option.{option_map_or}
use Rattle.std.specs.Str.{bytes_eq}
use Rattle.rv_elf.specs.Sections.{begins_with_name}
use Rattle.rv_lines.proofs.sections.begins_with_name.Goals as goal

pub returns-in-None : goal.returns-in-None
unfolding begins_with_name
returns-in-None c = sym (ap (λ o. option_map_or (bytes_eq c.args.text.now) o false) c.in-None.ensures.text)

pub returns-in-Some : goal.returns-in-Some
unfolding begins_with_name
returns-in-Some c = c.eq.ensures ∙ sym (ap (λ o. option_map_or (bytes_eq c.args.text.now) o false) c.in-Some.ensures.text)
