use Rattle.rv_disasm.proofs.Missing.{halfwords_of_c, words_of_m}
use Rattle.rv_disasm.proofs.law.missing_codes_are_of_m_or_c.Goals as goal

pub returns-clause-words : goal.returns-clause-words
returns-clause-words c = words_of_m

pub returns-clause-halfwords : goal.returns-clause-halfwords
returns-clause-halfwords c = halfwords_of_c
