use Rattle.std.proofs.Common.{rules}
use Rattle.rv_files.proofs.file_sink.FileSinkSink.put.Goals as goal

pub returns-clause-within : goal.returns-clause-within
returns-clause-within c = search rules

pub returns-clause-written : goal.returns-clause-written
returns-clause-written c = search rules
