use Rattle.std.proofs.Common.{rules}
use Rattle.rv_expect.proofs.rule.has_passed.Goals as goal

pub returns-in-Strict-Unasked : goal.returns-in-Strict-Unasked
returns-in-Strict-Unasked c = search rules
