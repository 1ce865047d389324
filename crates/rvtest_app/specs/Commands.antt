-- Options that several commands share, and exit statuses.
use Rattle.std.specs.Prelude.{◌==◌, ℕ, Bool, true, false, length}
use Rattle.std.specs.Prelude.{if◌then◌else◌, is_some}
use Rattle.std.specs.List.{filter}
use Rattle.rv_expect.specs.declared.rule.Rule.{Rule}
use Rattle.rv_expect.specs.declared.rule.Rule.TheVariants.{Strict, Lenient}
use Rattle.rv_expect.specs.Judgement.{JudgeView, judge_by_rule}
use Rattle.rv_expect.specs.TwoEnds.{expects_two_ends}
use Rattle.rv_rows.specs.Plans.{PlanView}
use Rattle.rv_rows.specs.declared_job.Job.{Job}
use Rattle.rv_rows.specs.Outcome.{refusal_in}
use Rattle.rv_rows.specs.Rows.{outcome_in}
use Rattle.rv_job_text.specs.declared.verbosity.Verbosity.{Verbosity}
use Rattle.rv_job_text.specs.declared.verbosity.Verbosity.TheVariants.{Quiet, Failures, All}
use Rattle.rv_diff.specs.Diff.{differing_count}
use Rattle.rv_diff.specs.declared.diff.DifferenceCounts.{DifferenceCounts}

-- the rule that decides which rows are failures: lenient with `--lenient`, otherwise strict
abbrev pub failure_rule : Bool → Rule
failure_rule true = Lenient
failure_rule false = Strict

-- how the rows of a report are judged: by the lenient rule with `--lenient` (the Bool), otherwise by the strict rule; no job counts as a
-- known failure
abbrev pub report_judging : Bool → JudgeView
report_judging is_lenient = judge_by_rule (failure_rule is_lenient)

-- which rows are shown: none with `--quiet` (the second Bool), all with `--verbose` (the first) alone, otherwise only the failures
abbrev pub requested_verbosity : Bool → Bool → Verbosity
requested_verbosity verbose true = Quiet
requested_verbosity true false = All
requested_verbosity false false = Failures

-- the exit status of `diff`: 0 if no job differs, and otherwise 1
abbrev pub diff_status : DifferenceCounts → ℕ
diff_status counts = if differing_count counts == 0 then 0 else 1

-- whether a job of the plan is refused
abbrev pub is_job_refused : PlanView → Job → Bool
is_job_refused plan job = is_some (refusal_in (outcome_in plan.results job).ending)

-- the number of refused jobs of the plan
abbrev pub refused_job_count : PlanView → ℕ
refused_job_count plan = length (filter (is_job_refused plan) plan.jobs)

-- the number of jobs of the plan that expect both an exit code and another end, and therefore never pass
abbrev pub warned_job_count : PlanView → ℕ
warned_job_count plan = length (filter expects_two_ends plan.jobs)

-- the exit status of `check` for a list without errors: 0 if no job is refused, and otherwise 2
abbrev pub check_status : ℕ → ℕ
check_status refused = if refused == 0 then 0 else 2

-- the exit status of a command that runs one job: 0 if the job passed, and otherwise 1
abbrev pub passing_status : Bool → ℕ
passing_status passed = if passed then 0 else 1
