-- Why `profile` stops early.
use Rattle.std.specs.Prelude.{Option}
use Rattle.rv_files.specs.Files.{FileContents}
use Rattle.rvtest_cli.specs.declared.profile.ProfileArgs.{ProfileArgs}
use Rattle.rv_command.specs.declared.stop.Stop.{Stop}
use Rattle.rvtest_app.specs.Profiles.{profile_format}
use Rattle.rvtest_app.specs.ViewStops.{IsViewStop}
use Rattle.rvtest_app.specs.declared.view.View.TheVariants as view

-- why `profile` stopped: the requested jobs could not be determined, or their profile could not be written
abbrev pub IsProfileStop : Option FileContents → ProfileArgs → Stop → Type 0
IsProfileStop contents args stop = IsViewStop contents args.run (view.Profile (profile_format args)) stop
