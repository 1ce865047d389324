use Rattle.std.proofs.Common.{rules}
use borrow.Author.Tests.{tests}
use Rattle.rv_rows.proofs.verdict.ran_with_console.Goals as goal

pub returns-then-did_run : goal.returns-then-did_run
returns-then-did_run c = let runs = c.if-did_run.ensures in search (tests, rules)
