-- What `cover` and `profile` report about refused jobs.
use Rattle.std.specs.Prelude.{◌++◌, ℕ, if◌then◌else◌, List, [], length}
use Rattle.std.specs.List.{flat_map}
use Rattle.rvtest_cli.specs.declared.run.RunArgs.{RunArgs}
use Rattle.rv_command.specs.Texts.{optional_text}
use Rattle.rv_stacks.specs.JobTables.{jobs_at}
use Rattle.rv_expect.specs.Judgement.{JudgeView}
use Rattle.rv_files.specs.declared.recording_store.UnreadablePath.{UnreadablePath}
use Rattle.rv_job_text.specs.RowReporter.{row_line}
use Rattle.rv_rows.specs.Plans.{PlanView}
use Rattle.rv_rows.specs.declared_job.Job.{Job}
use Rattle.rv_rows.specs.Rows.{row_of}
use Rattle.rvtest_app.specs.Commands.{is_job_refused, report_judging}
use Rattle.rvtest_app.specs.MissingImages.{missing_images_note}

-- the result line of a refused job; empty if the job is not refused
unfoldable pub line_if_refused : JudgeView → PlanView → List UnreadablePath → Job → List ℕ
line_if_refused judging plan unread job =
    if is_job_refused plan job then row_line plan unread judging job (row_of plan job) else []

-- the result lines of the refused jobs among the jobs at these indices
abbrev pub refused_lines : JudgeView → PlanView → List UnreadablePath → List ℕ → List ℕ
refused_lines judging plan unread indices = flat_map (line_if_refused judging plan unread) (jobs_at plan indices)

-- the note about missing images, which can be empty, and then the result lines of the refused jobs among the jobs at these indices
abbrev pub refused_note : RunArgs → PlanView → List UnreadablePath → List ℕ → List ℕ
refused_note args plan unread indices = missing_images_note plan.jobs unread (length indices) (optional_text args.root)
    ++ refused_lines (report_judging args.lenient) plan unread indices
