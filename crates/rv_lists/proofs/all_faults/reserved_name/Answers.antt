use Rattle.std.proofs.Common.{rules}
use Rattle.rv_lists.specs.ListFaults.{reserved_name}
use Rattle.rv_lists.proofs.all_faults.reserved_name.Goals as goal

pub returns-in-None-index_of_name-clause-value : goal.returns-in-None-index_of_name-clause-value
unfolding reserved_name
returns-in-None-index_of_name-clause-value c = search rules
