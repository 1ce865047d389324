use Rattle.std.proofs.Common.{rules}
use Rattle.rv_files.proofs.streams.StreamSink.count_failure.Goals as goal

pub returns-clause-one_more_failure : goal.returns-clause-one_more_failure
returns-clause-one_more_failure c = search rules
