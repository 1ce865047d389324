-- A job after its run was accepted: it expects the results of the run.
use Rattle.std.specs.Prelude.{Some, Option, ℕ, List}
use Rattle.rv_rows.specs.declared_job.ExpectedConsole.{ExpectedConsole}
use Rattle.rv_rows.specs.declared_job.ExpectedConsole.TheVariants.{Text}
use Rattle.rv_rows.specs.declared_job.ExpectedEnd.{ExpectedEnd}
use Rattle.rv_rows.specs.declared_job.ExpectedEnd.TheVariants as expected
use Rattle.rv_rows.specs.declared_job.Job.{Job}
use Rattle.rv_rows.specs.declared_row.RowEnd.{RowEnd}
use Rattle.rv_rows.specs.declared_row.RowEnd.TheVariants as ending

-- the new value of `expect_exit`: the actual exit code if an exit code is expected and the run exited, and otherwise the old value
abbrev pub actual_exit : Option ℕ → RowEnd → Option ℕ
actual_exit (Some code) (ending.Exit actual) = Some actual
actual_exit expected _ = expected

-- the new value of `expect_end`: the actual kind of fault if a fault is expected and the run faulted, and otherwise the old value
abbrev pub actual_end : Option ExpectedEnd → RowEnd → Option ExpectedEnd
actual_end (Some (expected.Fault kind)) (ending.Fault actual pc value) = Some (expected.Fault actual)
actual_end expected _ = expected

-- the new value of the expected console: the actual console output if the expected text is in the list, and otherwise the old value
abbrev pub actual_console : Option ExpectedConsole → List ℕ → Option ExpectedConsole
actual_console (Some (Text bytes)) console = Some (Text console)
actual_console expected console = expected

-- the job after its run was accepted: it expects this end and this console output where it specified such expectations in the list
abbrev pub accepted_job : Job → RowEnd → List ℕ → Job
accepted_job job end console = record job {
  expect_exit = actual_exit job.expect_exit end;
  expect_end = actual_end job.expect_end end;
  expect_console = actual_console job.expect_console console;
}
