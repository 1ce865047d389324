-- Where a run writes its files.
use Rattle.std.specs.Prelude.{ℕ, List, [], Option}
use Rattle.rv_command.specs.Texts.{optional_text}
use Rattle.rv_files.specs.CommittedFiles.{CommittedFile}
use Rattle.rvtest_cli.specs.declared.run.RunArgs.{RunArgs}
use Rattle.rvtest_app.specs.IntoReports.{run_report_path}
use Rattle.rvtest_app.specs.Outlets.{HasReceived, has_no_failure}
use Rattle.rvtest_app.specs.declared.run_outlets.RunOutlets.{RunOutlets}

module _ {P W : Type 0} where
  -- the outlets are for the paths in the arguments; the outlet of the report has received this text so far, the others nothing, and no
  -- write failed
  pub record HaveRunOutletsReceived (pending_path : P → List ℕ) (accepted : W → Option (List ℕ)) (failure_count : W → ℕ)
      (committed : Option (List CommittedFile)) (args : RunArgs) (text : List ℕ) (outlets : RunOutlets P W) : Type 0 where
    pub report : HasReceived pending_path accepted failure_count committed (run_report_path args) text outlets.report
    pub junit : HasReceived pending_path accepted failure_count committed (optional_text args.junit) [] outlets.junit
    pub counts : HasReceived pending_path accepted failure_count committed (optional_text args.counts) [] outlets.counts
    pub no_report_failure : has_no_failure failure_count outlets.report
    pub no_junit_failure : has_no_failure failure_count outlets.junit
