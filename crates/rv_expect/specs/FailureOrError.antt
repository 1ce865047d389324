-- The two kinds of rows that count as failures.
use Rattle.std.specs.Prelude.{◌&&◌, Bool, not}
use Rattle.rv_rows.specs.declared_row.Row.{Row}
use Rattle.rv_rows.specs.Verdict.{did_run}
use Rattle.rv_expect.specs.Judgement.{JudgeView, fails}

-- whether a row counts as a failure and its job ran
abbrev pub is_failure : JudgeView → Row → Bool
is_failure judge row = fails judge row && did_run row.ending

-- whether a row counts as a failure and its job was refused
abbrev pub is_error : JudgeView → Row → Bool
is_error judge row = fails judge row && not (did_run row.ending)
