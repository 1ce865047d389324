-- The law is the lemma.
use Rattle.rv_counting.proofs.Evens.{counts_even}
use Rattle.rv_counting.proofs.law.counts_have_even_addresses.Goals as goal

pub returns : goal.returns
returns c = counts_even
