use Rattle.std.proofs.Common.{rules}
use Rattle.rv_files.proofs.file_store.FileStore.count_fault.Goals as goal

pub returns-clause-one_more_fault : goal.returns-clause-one_more_fault
returns-clause-one_more_fault c = search rules
