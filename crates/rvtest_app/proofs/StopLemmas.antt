-- Stops that are handed on.
use Rattle.std.proofs.Common.{◌≡◌, ◌⊎◌, ℕ, Bool, true, List, Option, Result, Ok, Err, Vec, Global, IfOk, IfErr, inl, inr, refl, subst, sym, ⊎_elim}
use Rattle.std.specs.Prelude.{MatchResult, ⊤}
use Rattle.rv_files.specs.Files.{FileContents}
use Rattle.rvtest_cli.specs.declared.accept.AcceptArgs.{AcceptArgs}
use Rattle.rvtest_cli.specs.declared.counts.CountsArgs.{CountsArgs}
use Rattle.rvtest_cli.specs.declared.diff.DiffArgs.{DiffArgs}
use Rattle.rvtest_cli.specs.declared.gdb.GdbArgs.{GdbArgs}
use Rattle.rvtest_cli.specs.declared.merge.MergeArgs.{MergeArgs}
use Rattle.rvtest_cli.specs.declared.requests.Request.TheVariants as request
use Rattle.rvtest_cli.specs.declared.run.RunArgs.{RunArgs}
use Rattle.rvtest_cli.specs.declared.show.ShowArgs.{ShowArgs}
use Rattle.rv_command.specs.Stops.{IsResultUnreadStop}
use Rattle.rv_command.specs.Texts.{IsTextAt, optional_text}
use Rattle.rv_command.specs.declared.stop.Stop.{Stop}
use Rattle.rv_command.specs.declared.stop.Stop.TheVariants as stops
use Rattle.rvtest_app.specs.Accepts.{IsAcceptedAt}
use Rattle.rvtest_app.specs.CommandStops.{IsCommandStop, IsDiffAtStop, IsGdbStop, IsGdbStopped}
use Rattle.rvtest_app.specs.CountSums.{IsSumWritten}
use Rattle.rvtest_app.specs.Merges.{IsMergedAt}
use Rattle.rvtest_app.specs.Outlets.{is_stdout}
use Rattle.rvtest_app.specs.Runs.{AreJobsToRun}
use Rattle.rvtest_app.specs.CommandOutputs.{CommandOutputs}
use Rattle.rvtest_app.specs.Shows.{IsShowWritten}
use Rattle.rvtest_app.specs.ReportedStops.{IsDiffStop}
use Rattle.rvtest_app.specs.WrittenTexts.{IsTextWriteFailedStop, written_path}

pub IfErr-map : {X Y : Type 0} (r : Result X Y) (P Q : Y → Type 0) → ((y : Y) → P y → Q y) → IfErr r P → IfErr r Q
IfErr-map (Ok x) P Q f p = tt
IfErr-map (Err e) P Q f p = f e p

-- nothing is said of what failed
pub nothing_said : {X Y : Type 0} (r : Result X Y) → IfErr r (λ _. ⊤)
nothing_said (Ok x) = tt
nothing_said (Err e) = tt

-- what was found was not put, or nothing was found
pub put_or_found : {X Y : Type 0} (found : Result X Stop) (answer : Result Y Stop) (P : Stop → Type 0) → IfErr found P
    → IfErr answer (λ stop. MatchResult found (λ _. stop ≡ stops.WriteFailed) (λ found_stop. stop ≡ found_stop))
    → IfErr answer (λ stop. (stop ≡ stops.WriteFailed) ⊎ P stop)
put_or_found found (Ok y) P stopped put = tt
put_or_found (Ok x) (Err stop) P stopped put = inl put
put_or_found (Err found_stop) (Err stop) P stopped put = inr (rw put stopped)

-- a report of two is blamed, of which both were read
pub diff_stop_at : (contents : Option FileContents) (args : DiffArgs) (old : List ℕ) (new : Result (Vec ℕ Global) Stop)
    (stop : Stop) → IsTextAt contents args.old.now old → IfOk new (λ bytes. IsTextAt contents args.new.now bytes.items)
    → IfErr new (IsResultUnreadStop contents args.new.now) → IsDiffStop args old new stop → IsDiffAtStop contents args stop
diff_stop_at contents args old (Ok bytes) stop read found unread =
    ⊎_elim (λ memory. inl (inl (inl (inl memory))))
    (⊎_elim (λ fault. inl (inr (old, read, fault)))
    (λ is. inr (is.0, (record { bytes = old; read = read; parsed = is.1 }, inr (bytes.items, found, is.2)))))
diff_stop_at contents args old (Err failed) stop read found unread =
    ⊎_elim (λ memory. inl (inl (inl (inl memory))))
    (⊎_elim (λ fault. inl (inr (old, read, fault)))
    (λ is. inr (is.0, (record { bytes = old; read = read; parsed = is.1 }, inl (rw is.2 unread)))))

-- what was said, and which puts failed, is left away
pub gdb_stop : (contents : Option FileContents) (is_terminal : Bool) (args : GdbArgs) (before after : CommandOutputs) (x y : ℕ) (stop : Stop)
    → IsGdbStopped contents is_terminal args stop before after x y → IsGdbStop contents is_terminal args stop
gdb_stop contents is_terminal args before after x y stop =
    ⊎_elim (λ unshown. inl unshown.0) (λ broken. inr (broken.0, (broken.1.0, broken.1.1.0)))

-- a run that had jobs to run may be stopped by a failed write, and one that had none put nothing
pub unshown_run : (contents : Option FileContents) (is_terminal : Bool) (args : RunArgs) (Untouched : Type 0)
    → AreJobsToRun contents args ⊎ Untouched → IsCommandStop contents is_terminal (request.Run args) stops.WriteFailed ⊎ Untouched
unshown_run contents is_terminal args Untouched =
    ⊎_elim (λ found. inl (inr (inr (inr (found, inl (inr (inr (inl refl)))))))) inr

-- so may an acceptance, a merge and what is shown of a report
pub unshown_accept : (contents : Option FileContents) (is_terminal : Bool) (args : AcceptArgs) (status : ℕ) (before after : CommandOutputs)
    → IsAcceptedAt contents args status before after → IsCommandStop contents is_terminal (request.Accept args) stops.WriteFailed
unshown_accept contents is_terminal args status before after done =
    inr (done.bytes, (done.read, (done.jobs, (done.listed, inr (inr (inr (inl refl)))))))

pub unshown_merge : (contents : Option FileContents) (is_terminal : Bool) (args : MergeArgs) (status : ℕ) (before after : CommandOutputs)
    → IsMergedAt contents args status before after → IsCommandStop contents is_terminal (request.Merge args) stops.WriteFailed
unshown_merge contents is_terminal args status before after done =
    inr (inr (done.texts, (done.read, inr (done.rows, (done.parts, inr (inl refl))))))

pub unshown_report : (contents : Option FileContents) (is_terminal : Bool) (args : ShowArgs) (status : ℕ) (before after : CommandOutputs)
    → IsShowWritten contents args status before after → IsCommandStop contents is_terminal (request.Show args) stops.WriteFailed
unshown_report contents is_terminal args status before after done = inr (inr (done.partial_report, (done.read, inr (inl refl))))

-- a sum of tables that goes to standard output may be stopped there, and one that goes to a file put nothing there
pub unshown_sum : (contents : Option FileContents) (is_terminal : Bool) (args : CountsArgs) (status : ℕ) (before after : CommandOutputs) (Untouched : Type 0)
    → IsSumWritten contents args status before after
    → (is_stdout (written_path (optional_text args.out)) ≡ true) ⊎ Untouched
    → IsCommandStop contents is_terminal (request.Counts args) stops.WriteFailed ⊎ Untouched
unshown_sum contents is_terminal args status before after Untouched put =
    ⊎_elim (λ out. inl (inr (inr (inr (
      put.sum,
      (
        put.added,
        subst (λ (b : Bool). IsTextWriteFailedStop b (written_path (optional_text args.out)) stops.WriteFailed) (sym out) refl,
      ),
    ))))) inr
