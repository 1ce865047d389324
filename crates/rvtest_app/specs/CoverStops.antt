-- Why `cover` stops early.
use Rattle.std.specs.Prelude.{Option}
use Rattle.rv_files.specs.Files.{FileContents}
use Rattle.rvtest_cli.specs.declared.cover.CoverArgs.{CoverArgs}
use Rattle.rv_command.specs.declared.stop.Stop.{Stop}
use Rattle.rvtest_app.specs.ViewStops.{IsViewStop}
use Rattle.rvtest_app.specs.declared.view.View.TheVariants as view

-- why `cover` stopped: the requested jobs could not be determined, or their coverage could not be written
abbrev pub IsCoverStop : Option FileContents → CoverArgs → Stop → Type 0
IsCoverStop contents args stop = IsViewStop contents args.run (view.Cover args.csv) stop
