use Rattle.std.proofs.Common.{rules}
use Rattle.rv_expect.proofs.failure_or_error.is_failure.Goals as goal

pub returns-then-fails : goal.returns-then-fails
returns-then-fails c = search rules
