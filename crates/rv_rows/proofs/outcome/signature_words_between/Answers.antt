use Rattle.rv_rows.proofs.Signatures.{checked}
use Rattle.rv_rows.proofs.outcome.signature_words_between.Goals as goal

pub words-requires-clause-begin : goal.words-requires-clause-begin
words-requires-clause-begin c = (checked _ _ _ c.requires).begins

pub words-requires-clause-end : goal.words-requires-clause-end
words-requires-clause-end c = (checked _ _ _ c.requires).ends

pub words-requires-clause-order : goal.words-requires-clause-order
words-requires-clause-order c = (checked _ _ _ c.requires).order

pub words-requires-clause-within : goal.words-requires-clause-within
words-requires-clause-within c = (checked _ _ _ c.requires).within
