-- The counts of a run that went out, and what is left where one of its files did not.
use Rattle.std.proofs.Common.{◌≡◌, ◌⊎◌, ◌++◌, ℕ, Bool, true, false, List, [], Option, Some, None, inl, inr, refl, ⊎_elim}
use Rattle.std.specs.Borrow.{Bor}
use Rattle.std.specs.Prelude.{is_some, IsSomeAnd}
use Rattle.rvtest_cli.specs.declared.run.RunArgs.{RunArgs}
use Rattle.rv_command.specs.Texts.{optional_text}
use Rattle.rv_command.specs.declared.stop.Stop.{Stop}
use Rattle.rv_files.specs.CommittedFiles.{CommittedFile}
use Rattle.rv_job_text.specs.RowReporter.{RowReporter}
use Rattle.rv_rows.specs.Plans.{PlanView}
use Rattle.rv_rows.specs.declared_row.Row.{Row}
use Rattle.rv_rows.specs.declared_saved.Shard.{Shard}
use Rattle.rvtest_app.proofs.WriteStops.{unopened}
use Rattle.rvtest_app.specs.Outlets.{AreFilesCommitted, AreFilesPartlyCommitted, HasReceived, file_path_at}
use Rattle.rvtest_app.specs.WriteStops.{IsFileNotOpenedStop}
use Rattle.rvtest_app.specs.OutputWrites.{IsWrittenToErrorsIf}
use Rattle.rvtest_app.specs.RunStops.{IsRunWriteStop}
use Rattle.rvtest_app.specs.Runs.{AreCountsWritten, AreRunFilesPartlyCommitted, IsCountsText, IsRunWritten, junit_file, report_file}
use Rattle.rvtest_app.specs.CommandOutputs.{CommandOutputs, committed_if_reported, with_committed_if_reported}
use Rattle.rvtest_app.specs.StackStops.{IsCountsWriteStop}
use Rattle.rvtest_app.specs.WrittenTexts.{IsWrittenAt}
use Rattle.rvtest_app.specs.declared.outlets.Outlet.{Outlet}
use Rattle.rvtest_app.specs.declared.outlets.Outlet.TheVariants as outlet

-- ---- an outlet

module _ {P W : Type 0} (pending_path : P → List ℕ) (taken : W → Option (List ℕ)) (failed : W → ℕ) where
  -- one that is somewhere is for a path
  pub path_given : (committed : Option (List CommittedFile)) (path : Option (List ℕ)) (o : Outlet P W) (text : List ℕ)
      → HasReceived pending_path taken failed committed path text o → (o ≡ outlet.Nowhere → ⊥) → is_some path ≡ true
  path_given committed path outlet.Nowhere text has somewhere = absurd (somewhere refl)
  path_given committed path outlet.Stdout text has somewhere = rw has refl
  path_given committed path (outlet.File file) text has somewhere = rw has.0 refl

  -- what is said of it where nothing is told of files
  pub untold : (committed : Option (List CommittedFile)) (path : Option (List ℕ)) (o : Outlet P W) (text : List ℕ)
      → HasReceived pending_path taken failed committed path text o → HasReceived pending_path taken failed None path text o
  untold committed path outlet.Nowhere text has = has
  untold committed path outlet.Stdout text has = has
  untold committed path (outlet.File file) text has = (has.0, (has.1.0, (tt, has.1.1.1, has.1.1.2)))

-- ---- counts

-- a table went to the path that was given
pub counts_put : (stacks : Bool) (path : Option (List ℕ)) (plan : PlanView) (indices text : List ℕ) (before after : CommandOutputs)
    → is_some path ≡ true → IsCountsText stacks plan indices text → IsWrittenAt path text before after
    → AreCountsWritten stacks path plan indices before after
counts_put stacks None plan indices text before after given is written = absurd cc
counts_put stacks (Some path) plan indices text before after given is written = (text, (is, written))

-- none went anywhere where no path was given
pub no_counts_put : (stacks : Bool) (path : Option (List ℕ)) (plan : PlanView) (indices : List ℕ) (before after : CommandOutputs)
    → path ≡ None → IsWrittenAt None [] before after → AreCountsWritten stacks path plan indices before after
no_counts_put stacks path plan indices before after none written = rw none written

-- ---- the rows that were put before the counts

pub placed_of_shown : (to_stderr : Bool) (text : List ℕ) (before after : CommandOutputs) → IsWrittenToErrorsIf to_stderr text before after
    → after.committed ≡ before.committed
placed_of_shown true text before after is = is.2
placed_of_shown false text before after is = is.3

placed_behind_same : (earlier before after files : Option (List CommittedFile)) → before ≡ earlier
    → AreFilesCommitted before after files → AreFilesCommitted before (committed_if_reported earlier after) files
placed_behind_same None before after files same are = rw same tt
placed_behind_same (Some committed) before after files same are = are

pub run_put_where_told : (args : RunArgs) (reporter : RowReporter) (indices : List ℕ) (shard : Option Shard)
    (old : Option (List Row)) (rows : List Row) (before after : CommandOutputs) → IsRunWritten args reporter indices shard old rows before after
    → IsRunWritten args reporter indices shard old rows before (with_committed_if_reported before.committed after)
run_put_where_told args reporter indices shard old rows before after put = record {
  between = put.between;
  shown_written = put.shown_written;
  out = put.out;
  errors_unchanged = put.errors_unchanged;
  committed = placed_behind_same before.committed put.between.committed after.committed
      (Some (junit_file args reporter indices rows ++ report_file args reporter indices shard old rows))
      (placed_of_shown _ _ before put.between put.shown_written) put.committed;
}

-- ---- what is left

-- where the rows' files did not all go out
pub part_of_rows : (args : RunArgs) (reporter : RowReporter) (indices : List ℕ) (shard : Option Shard)
    (old : Option (List Row)) (rows : List Row) (before after : Option (List CommittedFile))
    → AreFilesPartlyCommitted before after (Some (junit_file args reporter indices rows))
    → (after ≡ before) ⊎ AreRunFilesPartlyCommitted args reporter indices shard old rows before after
part_of_rows args reporter indices shard old rows before after = ⊎_elim inl (λ committed. inr (inl committed))

given_text : (args : RunArgs) → is_some (optional_text args.counts) ≡ true → is_some args.counts ≡ true
given_text args = of args.counts
  where
    of : (path : Option (Bor (List ℕ))) → is_some (optional_text path) ≡ true → is_some path ≡ true
    of None given = given
    of (Some path) given = refl

-- where the counts did not
pub part_of_counts : (args : RunArgs) (reporter : RowReporter) (indices : List ℕ) (shard : Option Shard)
    (old : Option (List Row)) (rows : List Row) (before after committed : Option (List CommittedFile))
    → is_some (optional_text args.counts) ≡ true
    → AreFilesCommitted before after (Some (junit_file args reporter indices rows ++ report_file args reporter indices shard old rows))
    → committed ≡ after → (committed ≡ before) ⊎ AreRunFilesPartlyCommitted args reporter indices shard old rows before committed
part_of_counts args reporter indices shard old rows before after committed given files same =
    inr (inr (given_text args given, rw same files))

-- ---- why

pub unopened_counts : (args : RunArgs) (stop : Stop)
    → IsSomeAnd (file_path_at (optional_text args.counts)) (λ path. IsFileNotOpenedStop path stop) → IsRunWriteStop args stop
unopened_counts args stop is = inr (inl (unopened _ stop is))

pub unput_counts : (args : RunArgs) (stop : Stop) → IsCountsWriteStop args (file_path_at (optional_text args.counts)) stop
    → IsRunWriteStop args stop
unput_counts args stop = ⊎_elim (⊎_elim (λ memory. inl (inr (inl memory))) (λ none. inl (inl none))) (⊎_elim (λ failed. inl (inr (inr (inl failed)))) (λ is. inr is))
