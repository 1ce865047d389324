-- What `list` prints for a list.
use Rattle.std.specs.Prelude.{◌≡◌, ℕ, Bool, List, [], Option, Some, None, Ok, slice_index_or}
use Rattle.std.specs.List.{flat_map}
use Rattle.rv_files.specs.Files.{FileContents}
use Rattle.rv_choice.specs.ChosenJobs.{IsChoice}
use Rattle.rvtest_cli.specs.declared.run.RunArgs.{RunArgs}
use Rattle.rv_command.specs.Texts.{IsTextAt}
use Rattle.rv_rows.specs.Jobs.{single_job}
use Rattle.rv_rows.specs.JobList.{job_list_of}
use Rattle.rv_rows.specs.declared_job.Job.{Job}
use Rattle.rv_rows.specs.Report.{line}
use Rattle.rvtest_app.specs.Commands.{failure_rule}
use Rattle.rvtest_app.specs.Runs.{selected_job_indices}
use Rattle.rvtest_app.specs.CommandOutputs.{IsOnlyStandardOutput, IsOnlyErrorOutput, CommandOutputs}

-- the name of a job, as a line
abbrev pub name_line : Job → List ℕ
name_line job = line job.name

-- the names of the jobs at these indices, one per line
abbrev pub name_lines : List Job → List ℕ → List ℕ
name_lines jobs indices = flat_map (λ index. name_line (slice_index_or jobs index (single_job [] 0 []))) indices

-- the names of the selected jobs, one per line; empty if no job is selected (`None`)
abbrev pub chosen_name_lines : List Job → Option (List Bool) → List ℕ
chosen_name_lines jobs None = []
chosen_name_lines jobs (Some selection) = name_lines jobs (selected_job_indices selection)

-- `names` is what `list` prints for the list with the text `bytes`, and `notes` are the notes about the choice of jobs
pub record IsListOutputOf (contents : Option FileContents) (args : RunArgs) (bytes names notes : List ℕ) : Type 0 where
  pub jobs : List Job
  pub listed : job_list_of bytes ≡ Ok jobs
  pub selection : Option (List Bool)
  pub chosen : IsChoice contents args (failure_rule args.lenient) jobs selection notes
  pub names_are : names ≡ chosen_name_lines jobs selection

-- `names` is what `list` prints for the list at the path in the arguments, and `notes` are the notes about the choice of jobs
pub record IsListOutputAt (contents : Option FileContents) (args : RunArgs) (names notes : List ℕ) : Type 0 where
  pub bytes : List ℕ
  pub read : IsTextAt contents args.list.now bytes
  pub output : IsListOutputOf contents args bytes names notes

-- the notes about the choice were written to standard error, and the names to standard output; the status is 0
pub record IsListWritten (contents : Option FileContents) (args : RunArgs) (status : ℕ) (before after : CommandOutputs) : Type 0 where
  pub names : List ℕ
  pub notes : List ℕ
  pub output : IsListOutputAt contents args names notes
  pub between : CommandOutputs
  pub reported : IsOnlyErrorOutput notes before between
  pub written : IsOnlyStandardOutput names between after
  pub exit_status : status ≡ 0
