use Rattle.std.proofs.Common.{◌∙◌, ap, take}
use Rattle.std.specs.Str.{bytes_eq}
use Rattle.rv_lines.specs.Header.{standard_lengths}
use Rattle.rv_lines.proofs.header.are_standard.Goals as goal

pub returns : goal.returns
returns c = c.eq.ensures ∙ ap (λ k. bytes_eq (take k c.args.lengths.now) (take k standard_lengths)) c.min-known.ensures
