use Rattle.std.proofs.Common.{rules}
use Rattle.rv_text.proofs.slices.actual_and_expected_from.Goals as goal

pub returns-clause-actual : goal.returns-clause-actual
returns-clause-actual c = search rules
