-- How the rows of a run are counted.
use Rattle.std.proofs.Common.{◌≡◌, ◌∙◌, ℕ, List, Option, Some, None, ap, refl, subst, sym}
use Rattle.std.specs.Borrow.{Bor}
use Rattle.std.specs.Prelude.{option_copied, option_map}
use Rattle.rvtest_cli.specs.declared.run.RunArgs.{RunArgs}
use Rattle.rv_expect.specs.Judgement.{JudgeView}
use Rattle.rv_expect.specs.declared.rule.Rule.{Rule}
use Rattle.rv_files.specs.CommittedFiles.{CommittedFile}
use Rattle.rv_files.specs.declared.recording_store.UnreadablePath.{UnreadablePath}
use Rattle.rv_job_text.specs.RowReporter.{RowReporter}
use Rattle.rv_job_text.specs.declared.verbosity.Verbosity.{Verbosity}
use Rattle.rv_rows.specs.Plans.{PlanView}
use Rattle.rv_expect.specs.declared.known_jobs.KnownJobs.{KnownJobs}
use Rattle.rv_rows.specs.declared_row.Row.{Row}
use Rattle.rv_rows.specs.declared_saved.Shard.{Shard}
use Rattle.rvtest_app.specs.Commands.{failure_rule, requested_verbosity}
use Rattle.rvtest_app.specs.Runs.{AreRunFilesPartlyCommitted, run_rows, run_reporter}

-- how rows are told, by a rule, of a plan
abbrev pub told_by : RunArgs → Option KnownJobs → PlanView → List UnreadablePath → Rule → Verbosity → RowReporter
told_by args known plan unread rule verbosity = record {
  plan = plan;
  unread = unread;
  judging = record { rule = rule; known = known };
  verbosity = verbosity;
  last = args.last;
}

-- known failures behind a reference, if there are any
pub known_behind : (contents : Option (Bor KnownJobs)) → option_map (λ jobs. jobs.now) contents ≡ option_copied contents
known_behind None = refl
known_behind (Some jobs) = refl

-- ---- what is left of a run, told in equal words

-- how a run is told is what words ask for
pub reported_as_requested : (args : RunArgs) (failures known : Option KnownJobs) (plan : PlanView) (unread : List UnreadablePath) (rule : Rule)
    (verbosity : Verbosity) → rule ≡ failure_rule args.lenient → known ≡ failures
    → verbosity ≡ requested_verbosity args.verbose args.quiet
    → told_by args known plan unread rule verbosity ≡ run_reporter args failures plan unread
reported_as_requested args failures known plan unread rule verbosity e f h =
    ap (λ (r : Rule). told_by args known plan unread r verbosity) e
    ∙ ap (λ (k : Option KnownJobs). told_by args k plan unread (failure_rule args.lenient) verbosity) f
    ∙ ap (λ (v : Verbosity). told_by args failures plan unread (failure_rule args.lenient) v) h

pub same_rows : (stop_after : Option ℕ) (judging other : JudgeView) (plan : PlanView) (indices others : List ℕ) → judging ≡ other
    → indices ≡ others → run_rows stop_after other plan others ≡ run_rows stop_after judging plan indices
same_rows stop_after judging other plan indices others e f =
    sym (ap (λ (j : JudgeView). run_rows stop_after j plan indices) e ∙ ap (λ (p : List ℕ). run_rows stop_after other plan p) f)

pub same_part : (args : RunArgs) (reporter other : RowReporter) (indices others : List ℕ) (shard : Option Shard)
    (old : Option (List Row)) (rows : List Row) (before after : Option (List CommittedFile)) → reporter ≡ other → indices ≡ others
    → AreRunFilesPartlyCommitted args reporter indices shard old rows before after
    → AreRunFilesPartlyCommitted args other others shard old rows before after
same_part args reporter other indices others shard old rows before after e f part =
    subst (λ (p : List ℕ). AreRunFilesPartlyCommitted args other p shard old rows before after) f
    (subst (λ (t : RowReporter). AreRunFilesPartlyCommitted args t indices shard old rows before after) e part)
