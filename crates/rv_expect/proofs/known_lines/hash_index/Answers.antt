use Rattle.std.proofs.Common.{◌∙◌, sym}
use Rattle.rv_expect.specs.KnownLines.{is_hash}
use Rattle.rv_expect.proofs.KnownPlaces.{none_is_end}
use Rattle.rv_expect.proofs.known_lines.hash_index.Goals as goal

pub returns-in-None-clause-index : goal.returns-in-None-clause-index
returns-in-None-clause-index c = none_is_end is_hash c.args.line.now (sym c.first_hash.ensures ∙ c.in-None.is)
