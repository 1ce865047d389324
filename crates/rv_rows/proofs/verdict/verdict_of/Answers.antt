use Rattle.std.proofs.Common.{rules}
use borrow.Author.Tests.{tests}
use Rattle.rv_rows.specs.Verdict.{verdict_of}
use Rattle.rv_rows.proofs.verdict.verdict_of.Goals as goal

pub returns : goal.returns
unfolding verdict_of
returns c =
    let end = c.if-not-has_expected_end.ensures in
    let console = c.if-not-has_expected_console.ensures in
    let reference = c.if-not-has_expected_signature.ensures in
    search (tests, rules)
