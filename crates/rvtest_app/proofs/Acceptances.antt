-- What is told of accepted runs is so of the jobs of their list.
use Rattle.std.proofs.Common.{None, ◌≡◌, ◌∙◌, [], Bool, List, Option, IfSome, Result, Ok, ap, fold, length, map, refl}
use Rattle.std.proofs.lemmas.List.{length-map}
use Rattle.rv_accept.proofs.Public.{marks_count}
use Rattle.rv_accept.specs.GoldenTexts.{golden_texts_of_runs}
use Rattle.rv_accept.specs.Edits.{edited_rest}
use Rattle.rv_accept.specs.IntendedJobs.{intended_jobs}
use Rattle.rv_accept.specs.Sharing.{jobs_to_run}
use Rattle.rv_accept.specs.Targets.{with_target}
use Rattle.rv_accept.specs.declared.golden_texts.GoldenText.{GoldenText}
use Rattle.rv_accept.specs.declared.edits.Edit.{Edit}
use Rattle.rv_accept.specs.declared.runs.JobRun.{JobRun}
use Rattle.rv_accept_text.specs.NewLists.{AreSkippedFrom}
use Rattle.rv_accept_text.specs.declared.accept_summary.AcceptSummary.{AcceptSummary}
use Rattle.rv_accept_text.specs.declared.golden_file.GoldenFile.{GoldenFile}
use Rattle.rv_accept_text.specs.declared.golden_file.ListFile.{ListFile}
use Rattle.rv_accept_text.specs.declared.new_list.NewList.{NewList}
use Rattle.rv_files.specs.Files.{FileContents}
use Rattle.rvtest_cli.specs.declared.accept.AcceptArgs.{AcceptArgs}
use Rattle.rv_command.specs.Texts.{optional_text}
use Rattle.rv_rows.specs.JobList.{job_list_of}
use Rattle.rv_rows.specs.Jobs.{without_expectations}
use Rattle.rv_rows.specs.declared_job.Job.{Job}
use Rattle.rvtest_app.specs.Accepts.{AreGoldenFiles, IsAcceptOutcome, IsAcceptSummaryOf}

-- of the file of the list, its text and its jobs
pub outcome_told : (contents : Option FileContents) (args : AcceptArgs) (list : ListFile) (judged : List (Option JobRun))
    (golden_texts : List GoldenText) (files : List GoldenFile) (new : NewList) (told : AcceptSummary)
    → list.path.now ≡ args.run.list.now → AreSkippedFrom judged new.runs.items
    → golden_texts ≡ golden_texts_of_runs 0 list.jobs.now new.runs.items
    → AreGoldenFiles contents (optional_text args.run.root) (fold (with_target new.runs.items golden_texts) [] golden_texts) files
    → IfSome new.text (λ text. (edits : List Edit) × (text.items ≡ edited_rest 0 list.text.now edits))
    → IfSome new.text (λ text. job_list_of text.items ≡ Ok (intended_jobs list.jobs.now new.runs.items))
    → (new.text ≡ None → intended_jobs list.jobs.now new.runs.items ≡ list.jobs.now)
    → IsAcceptSummaryOf list new.runs.items golden_texts files new told
    → IsAcceptOutcome contents args list.text.now list.jobs.now judged told
outcome_told contents args list judged golden_texts files new told path left are golden edited intended unchanged of = record {
  path = rw of.0 path;
  text = rw of.0 refl;
  listed = rw of.0 refl;
  runs = rw of.1 left;
  golden_texts = rw (of.2, of.1) are;
  files = rw (of.3, of.2, of.1) golden;
  edited = rw of.4 edited;
  intended = rw (of.4, of.1) intended;
  unchanged = rw (of.4, of.1) unchanged;
}

-- the selection has an entry for each job without its expectations
pub bare_count : (jobs bare : List Job) (chosen selection : List Bool) → bare ≡ map without_expectations jobs → length chosen ≡ length jobs
    → selection ≡ jobs_to_run jobs chosen → length selection ≡ length bare
bare_count jobs bare chosen selection are counted selected =
    ap length selected ∙ marks_count jobs chosen counted ∙ rw (are, length-map jobs without_expectations) refl
