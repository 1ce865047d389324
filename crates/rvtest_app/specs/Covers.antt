-- What `cover` writes: the code coverage of the images of the requested jobs.
use Rattle.std.specs.Prelude.{ℕ, Option}
use Rattle.rv_files.specs.Files.{FileContents}
use Rattle.rvtest_cli.specs.declared.cover.CoverArgs.{CoverArgs}
use Rattle.rvtest_app.specs.CommandOutputs.{CommandOutputs}
use Rattle.rvtest_app.specs.Views.{IsViewWritten}
use Rattle.rvtest_app.specs.declared.view.View.TheVariants as view

-- the notes about the choice were written to standard error, and then the coverage of the images of the requested jobs was written
abbrev pub IsCoverageWritten : Option FileContents → CoverArgs → ℕ → CommandOutputs → CommandOutputs → Type 0
IsCoverageWritten contents args status before after = IsViewWritten contents args.run (view.Cover args.csv) status before after
