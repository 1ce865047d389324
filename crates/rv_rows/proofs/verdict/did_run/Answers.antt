use Rattle.std.proofs.Common.{rules}
use borrow.Author.Tests.{tests}
use Rattle.rv_rows.proofs.verdict.did_run.Goals as goal

pub returns : goal.returns
returns c = search (tests, rules)
