use Rattle.std.proofs.Common.{rules}
use borrow.Author.Tests.{tests}
use Rattle.rv_rows.proofs.verdict.meets_expected_end.Goals as goal

pub returns-in-Fault-Fault : goal.returns-in-Fault-Fault
returns-in-Fault-Fault c = search (tests, rules)

pub returns-in-Budget-Budget : goal.returns-in-Budget-Budget
returns-in-Budget-Budget c = search rules
