-- Which failures come of an error of a layer below.
use Rattle.std.proofs.Common.{◌≡◌, true, Option, Some, None, refl}
use Rattle.rv_fleet.specs.declared_report.WriteError.{WriteError}
use Rattle.rv_fleet.specs.declared_report.WriteError.TheVariants as write
use Rattle.rv_fleet.specs.declared.fleet.FleetError.{FleetError}
use Rattle.rv_fleet.specs.declared.fleet.FleetError.TheVariants as fleet
use Rattle.rvfleet_app.specs.declared.error.Failure.{Failure}
use Rattle.rvfleet_app.specs.declared.error.Failure.TheVariants as failure
use Rattle.rvfleet_app.specs.declared.error.RunError.{RunError}
use Rattle.rvfleet_app.specs.declared.error.RunError.TheVariants as run_error
use Rattle.rvfleet_app.specs.Responses.{may_fail}
use Rattle.rv_cli.specs.RvfleetCommand.{Request, one, raw, run}
use Rattle.rvfleet_app.specs.Failures.{fleet_failure, is_list_failure, is_raw_failure, is_write_failure, run_failure, send_failure}

pub send_why : (e : WriteError) → is_write_failure (send_failure e) ≡ true
send_why write.OutOfMemory = refl
send_why write.Failed = refl

pub fleet_why : (e : FleetError) → is_list_failure (fleet_failure e) ≡ true
fleet_why fleet.OutOfMemory = refl
fleet_why fleet.NoWorker = refl

pub raw_why : (e : RunError) → is_raw_failure (run_failure e) ≡ true
raw_why run_error.OutOfMemory = refl
raw_why run_error.ReadFailed = refl
raw_why run_error.WriteFailed = refl

-- what sending may meet, each request may
pub list_why : (f : Failure) → is_write_failure f ≡ true → is_list_failure f ≡ true
list_why failure.OutOfMemory e = refl
list_why failure.NoWorker e = refl
list_why failure.ListUnreadable e = refl
list_why failure.ListTooLong e = refl
list_why failure.ReadFailed e = e
list_why failure.WriteFailed e = refl

of_raw : (f : Failure) → is_write_failure f ≡ true → is_raw_failure f ≡ true
of_raw failure.OutOfMemory e = refl
of_raw failure.NoWorker e = e
of_raw failure.ListUnreadable e = e
of_raw failure.ListTooLong e = e
of_raw failure.ReadFailed e = refl
of_raw failure.WriteFailed e = refl

pub any_why : (request : Option Request) (f : Failure) → is_write_failure f ≡ true → may_fail request f ≡ true
any_why (Some (raw budget)) f e = of_raw f e
any_why (Some (one path budget digits)) f e = e
any_why (Some (run path workers group)) f e = list_why f e
any_why None f e = e
