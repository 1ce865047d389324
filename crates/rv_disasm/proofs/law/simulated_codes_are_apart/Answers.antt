use Rattle.rv_disasm.proofs.Apart.{halfwords_apart, words_apart}
use Rattle.rv_disasm.proofs.law.simulated_codes_are_apart.Goals as goal

pub returns-clause-words : goal.returns-clause-words
returns-clause-words c = words_apart

pub returns-clause-halfwords : goal.returns-clause-halfwords
returns-clause-halfwords c = halfwords_apart
