-- What `profile` writes: in which functions the requested jobs spent their steps.
use Rattle.std.specs.Prelude.{ℕ, Option}
use Rattle.rv_files.specs.Files.{FileContents}
use Rattle.rvtest_cli.specs.declared.profile.ProfileArgs.{ProfileArgs}
use Rattle.rv_profile.specs.declared.format.ProfileFormat.{ProfileFormat}
use Rattle.rvtest_app.specs.CommandOutputs.{CommandOutputs}
use Rattle.rvtest_app.specs.Views.{IsViewWritten}
use Rattle.rvtest_app.specs.declared.view.View.TheVariants as view

-- the requested format of a profile: whether it is CSV, and at most how many functions of each image it shows
abbrev pub profile_format : ProfileArgs → ProfileFormat
profile_format args = record { csv = args.csv; top = args.top }

-- the notes about the choice were written to standard error, and then the profile of the requested jobs was written
abbrev pub IsProfileWritten : Option FileContents → ProfileArgs → ℕ → CommandOutputs → CommandOutputs → Type 0
IsProfileWritten contents args status before after = IsViewWritten contents args.run (view.Profile (profile_format args)) status before after
