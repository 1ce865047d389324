use Rattle.rv_expect.proofs.References.{reads, written}
use Rattle.rv_expect.proofs.law.references_are_lines_of_words.Goals as goal

pub returns-clause-read : goal.returns-clause-read
returns-clause-read c = reads

pub returns-clause-written : goal.returns-clause-written
returns-clause-written c = written
