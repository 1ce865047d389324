-- Whether a job passed.
use Rattle.std.specs.Prelude.{Bool, true, false}
use Rattle.rv_rows.specs.declared_row.Row.{Row}
use Rattle.rv_rows.specs.declared_row.Verdict.{Verdict}
use Rattle.rv_rows.specs.declared_row.Verdict.TheVariants as verdict
use Rattle.rv_expect.specs.UnmetExpectations.{passes}
use Rattle.rv_expect.specs.declared.rule.Rule.{Rule}
use Rattle.rv_expect.specs.declared.rule.Rule.TheVariants.{Strict, Lenient}

-- whether a verdict is not `fail`
abbrev pub is_not_fail : Verdict → Bool
is_not_fail verdict.Unasked = true
is_not_fail verdict.Pass = true
is_not_fail verdict.Fail = false

-- whether a row passed; by the strict rule, if the verdict is `pass`, or the job has no expectations and ended with exit code 0; by the
-- lenient rule, if the verdict is not `fail`
abbrev pub has_passed : Rule → Row → Bool
has_passed Strict row = passes row.verdict row.ending
has_passed Lenient row = is_not_fail row.verdict
