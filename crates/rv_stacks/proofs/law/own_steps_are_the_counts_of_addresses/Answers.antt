use Rattle.rv_stacks.proofs.AddressCounts.{own_counts}
use Rattle.rv_stacks.proofs.law.own_steps_are_the_counts_of_addresses.Goals as goal

pub returns : goal.returns
returns c = own_counts
