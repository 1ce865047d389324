use Rattle.std.proofs.Common.{rules}
use Rattle.rv_rows.proofs.verdict.has_expected_console.Goals as goal

pub returns-in-Some-Text-default : goal.returns-in-Some-Text-default
returns-in-Some-Text-default c = search rules
