-- How the program responds to its arguments.
use Rattle.std.specs.Prelude.{◌≡◌, ◌⊎◌, ℕ, Bool, List, Option, Some, None}
use Rattle.clap.specs.Kinds.{IsAmong}
use Rattle.clap.specs.declared.error.kind.ErrorKind.TheVariants.{DisplayHelp, DisplayVersion}
use Rattle.rv_files.specs.Files.{FileContents}
use Rattle.rvtest_cli.specs.RvtestArgs.{value_of_request, args_error_kinds, request_of_args}
use Rattle.rvtest_cli.specs.declared.requests.Request.{Request}
use Rattle.rvtest_cli.specs.declared.requests.Request.TheVariants as request
use Rattle.rvtest_app.specs.Accepts.{IsAcceptedAt}
use Rattle.rvtest_app.specs.Colors.{IsColoredOutput, requested_colors}
use Rattle.rvtest_app.specs.Consoles.{IsConsoleWritten}
use Rattle.rvtest_app.specs.CountSums.{IsSumWritten}
use Rattle.rvtest_app.specs.Covers.{IsCoverageWritten}
use Rattle.rvtest_app.specs.Debugging.{IsGdbServed}
use Rattle.rvtest_app.specs.HelpTopics.{IsTopicPrinted}
use Rattle.rvtest_app.specs.Lists.{IsListWritten}
use Rattle.rvtest_app.specs.Merges.{IsMergedAt}
use Rattle.rvtest_app.specs.Profiles.{IsProfileWritten}
use Rattle.rvtest_app.specs.Reports.{IsCheckOutputAt, IsDiffWritten, IsExplanationAt}
use Rattle.rvtest_app.specs.Runs.{IsRunAt}
use Rattle.rvtest_app.specs.CommandOutputs.{IsOnlyStandardOutput, CommandOutputs}
use Rattle.rvtest_app.specs.Shows.{IsShowWritten}

-- a command did what the request asks for: `status` is its exit status, and `before` and `after` are the outputs before and after it.
-- `contents` and `input` are the contents of files and of standard input, if they are known; `is_terminal` says whether standard output is
-- a terminal
abbrev pub IsCommandDone : Option FileContents → Option (List ℕ) → Bool → Request → ℕ → CommandOutputs → CommandOutputs → Type 0
IsCommandDone contents input is_terminal (request.Run args) status before after =
    IsRunAt contents args status before after
IsCommandDone contents input is_terminal (request.Explain args) status before after =
    (text : List ℕ) × (IsExplanationAt contents args text status
    × IsOnlyStandardOutput text before after)
IsCommandDone contents input is_terminal (request.List args) status before after =
    IsListWritten contents args status before after
IsCommandDone contents input is_terminal (request.Console args) status before after =
    IsConsoleWritten contents args status before after
IsCommandDone contents input is_terminal (request.Gdb args) status before after =
    (rest : Option (List ℕ)) × IsGdbServed contents is_terminal args input rest status before after
IsCommandDone contents input is_terminal (request.Check args) status before after =
    (text : List ℕ) × (IsCheckOutputAt contents args text status
    × IsOnlyStandardOutput text before after)
IsCommandDone contents input is_terminal (request.Accept args) status before after =
    IsAcceptedAt contents args status before after
IsCommandDone contents input is_terminal (request.Merge args) status before after =
    IsMergedAt contents args status before after
IsCommandDone contents input is_terminal (request.Diff args) status before after =
    IsDiffWritten contents args status before after
IsCommandDone contents input is_terminal (request.Show args) status before after =
    IsShowWritten contents args status before after
IsCommandDone contents input is_terminal (request.Counts args) status before after =
    IsSumWritten contents args status before after
IsCommandDone contents input is_terminal (request.Cover args) status before after =
    IsCoverageWritten contents args status before after
IsCommandDone contents input is_terminal (request.Profile args) status before after =
    IsProfileWritten contents args status before after
IsCommandDone contents input is_terminal (request.Help args) status before after =
    (text : List ℕ) × (IsTopicPrinted args.topic.now text status
    × IsOnlyStandardOutput text before after)

-- a command did what the request asks for, with its results on standard output colored as requested; `is_colored` says whether standard
-- output is a terminal that supports colors
pub record IsDoneInColors (contents : Option FileContents) (input : Option (List ℕ)) (is_terminal is_colored : Bool) (request : Request)
    (status : ℕ) (before after : CommandOutputs) : Type 0 where
  pub plain : CommandOutputs
  pub done : IsCommandDone contents input is_terminal request status before plain
  pub colored : IsColoredOutput (requested_colors request is_colored) before plain after

-- the arguments request the help or the version
abbrev pub RequestHelp : List (List ℕ) → Type 0
RequestHelp args = IsAmong DisplayHelp (args_error_kinds args) ⊎ IsAmong DisplayVersion (args_error_kinds args)

-- the program only prints a text: a usage error, with status 2, if the arguments are not a request, or the requested help or version, with
-- status 0
abbrev pub IsOnlyUsageOrHelp : List (List ℕ) → ℕ → Type 0
IsOnlyUsageOrHelp args status =
    ((request_of_args args ≡ None) × (status ≡ 2)) ⊎ (RequestHelp args × (status ≡ 0))

-- the program responded to its arguments: it carried out their request, or only printed a usage error, the help or the version
abbrev pub IsCarriedOut : Option FileContents → Option (List ℕ) → Bool → Bool → List (List ℕ) → ℕ → CommandOutputs → CommandOutputs → Type 0
IsCarriedOut contents input is_terminal is_colored args status before after =
    ((request : Request) × ((request_of_args args ≡ Some (value_of_request request))
    × IsDoneInColors contents input is_terminal is_colored request status before after))
    ⊎ (IsOnlyUsageOrHelp args status × (after.errors ≡ before.errors) × (after.failures ≡ before.failures)
    × (after.committed ≡ before.committed))
