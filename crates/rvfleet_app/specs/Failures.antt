-- The program's failures for the errors of lower layers.
use Rattle.std.specs.Prelude.{◌≡◌, Bool, true, false}
use Rattle.rv_fleet.specs.declared_lists_error.JobError.{JobError}
use Rattle.rvfleet_app.specs.declared.error.ListError.{ListError}
use Rattle.rvfleet_app.specs.declared.error.ListError.TheVariants.{Failed, Invalid}
use Rattle.rv_fleet.specs.declared_lists_error.What.TheVariants as what
use Rattle.rv_fleet.specs.declared.fleet.FleetError.{FleetError}
use Rattle.rv_fleet.specs.declared.fleet.FleetError.TheVariants as fleet_error
use Rattle.rv_fleet.specs.declared_report.WriteError.{WriteError}
use Rattle.rv_fleet.specs.declared_report.WriteError.TheVariants as write_error
use Rattle.rv_files.specs.declared.input.InputError.{InputError}
use Rattle.rv_files.specs.declared.input.InputError.TheVariants as input_error
use Rattle.rvfleet_app.specs.declared.error.Failure.{Failure}
use Rattle.rvfleet_app.specs.declared.error.Failure.TheVariants as failure
use Rattle.rvfleet_app.specs.declared.error.RunError.{RunError}
use Rattle.rvfleet_app.specs.declared.error.RunError.TheVariants as run_error

-- the run's error for a failed read of its input
abbrev pub input_read_failure : InputError → RunError
input_read_failure input_error.OutOfMemory = run_error.OutOfMemory
input_read_failure (input_error.Failed reason) = run_error.ReadFailed

-- the run's error for a failed write of its report
abbrev pub write_failure : WriteError → RunError
write_failure write_error.OutOfMemory = run_error.OutOfMemory
write_failure write_error.Failed = run_error.WriteFailed

-- the program's failure for an error in running a flat image
abbrev pub run_failure : RunError → Failure
run_failure run_error.OutOfMemory = failure.OutOfMemory
run_failure run_error.ReadFailed = failure.ReadFailed
run_failure run_error.WriteFailed = failure.WriteFailed

-- the program's failure for an error in computing the report of a plan
abbrev pub fleet_failure : FleetError → Failure
fleet_failure fleet_error.OutOfMemory = failure.OutOfMemory
fleet_failure fleet_error.NoWorker = failure.NoWorker

-- the program's failure for a failed write of a report
abbrev pub send_failure : WriteError → Failure
send_failure write_error.OutOfMemory = failure.OutOfMemory
send_failure write_error.Failed = failure.WriteFailed

-- whether writing a report or the help can cause this failure
abbrev pub is_write_failure : Failure → Bool
is_write_failure failure.OutOfMemory = true
is_write_failure failure.WriteFailed = true
is_write_failure _ = false

-- whether running a flat image, which reads the input, can cause this failure
abbrev pub is_raw_failure : Failure → Bool
is_raw_failure failure.OutOfMemory = true
is_raw_failure failure.ReadFailed = true
is_raw_failure failure.WriteFailed = true
is_raw_failure _ = false

-- whether running a job list, which reads a file and starts workers, can cause this failure
abbrev pub is_list_failure : Failure → Bool
is_list_failure failure.ReadFailed = false
is_list_failure _ = true

-- if reading a list ended with a failure, it is one that running a job list can cause; always true if the list is invalid
abbrev pub IsListFailure : ListError → Type 0
IsListFailure (Invalid error) = Unit {0}
IsListFailure (Failed failure) = is_list_failure failure ≡ true

-- the error of a list that was not parsed: `Failed` if memory ran out, and otherwise `Invalid` with the parser's error
abbrev pub IsListError : JobError → ListError → Type 0
IsListError error (Invalid reported) = (reported ≡ error) × (error.what ≡ what.OutOfMemory → ⊥)
IsListError error (Failed reported) = (reported ≡ failure.OutOfMemory) × (error.what ≡ what.OutOfMemory)
