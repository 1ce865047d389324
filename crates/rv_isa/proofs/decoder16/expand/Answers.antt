use Rattle.rv_isa.proofs.HalfwordRows.{expands_none, expands_word}
use Rattle.rv_isa.proofs.decoder16.expand.Goals as goal

pub returns-clause-none : goal.returns-clause-none
returns-clause-none c = expands_none c.args.half c.expanded_word.result c.expanded_word.ensures

pub returns-clause-word : goal.returns-clause-word
returns-clause-word c = expands_word c.args.half c.expanded_word.result c.expanded_word.ensures
