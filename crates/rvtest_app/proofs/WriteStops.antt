-- Stops of what is put, handed on.
use Rattle.std.proofs.Common.{◌≡◌, ◌≢◌, ◌⊎◌, ℕ, List, [], Option, Some, None, Result, Ok, Err, IfErr, inl, inr, refl, ⊎_elim}
use Rattle.std.specs.Prelude.{IsSomeAnd, MatchResult}
use Rattle.std.specs.declared.io.ErrorKind.TheVariants as io
use Rattle.rvtest_cli.specs.declared.run.RunArgs.{RunArgs}
use Rattle.rv_command.specs.Stops.{IsFileErrorStop}
use Rattle.rv_command.specs.declared.stop.Stop.{Stop}
use Rattle.rv_files.specs.declared.file_error.FileError.{FileError}
use Rattle.rv_files.specs.declared.file_error.FileError.TheVariants as file
use Rattle.rv_files.specs.CommittedFiles.{CommittedFile}
use Rattle.rv_rows.specs.declared_report.WriteError.{WriteError}
use Rattle.rv_rows.specs.declared_report.WriteError.TheVariants as write
use Rattle.rvtest_app.specs.Outlets.{HasReceived, file_path_at, outlet_path}
use Rattle.rvtest_app.specs.WriteStops.{IsFileStop, IsOutputStop, IsOutputWriteStop, IsTextNotWrittenStop, IsFileNotOpenedStop, IsUncommittedStop, IsWriteFailedStop, IsWriteErrorStop, stop_of_write_error}
use Rattle.rvtest_app.specs.IntoReports.{run_report_path}
use Rattle.rvtest_app.specs.RunStops.{IsRunWriteStop, IsStreamErrorStop}
use Rattle.rv_stream.specs.declared.error.StreamError.{StreamError}
use Rattle.rv_stream.specs.declared.error.StreamError.TheVariants as stream
use Rattle.rvtest_app.specs.declared.outlets.Outlet.{Outlet}
use Rattle.rvtest_app.proofs.PutTexts.{path_told}
use Rattle.rvtest_app.proofs.StopLemmas.{IfErr-map}

-- ---- texts

-- a text that did not go to standard output
pub stdout_stop : {X : Type 0} (written : Result X WriteError) (answer : Result X Stop)
    → IfErr answer (λ stop. MatchResult written (λ _. ⊥) (λ error. stop ≡ stop_of_write_error error))
    → IfErr answer (IsTextNotWrittenStop None)
stdout_stop written (Ok x) stopped = tt
stdout_stop (Ok x) (Err stop) stopped = elim stopped [ ]
stdout_stop (Err write.OutOfMemory) (Err stop) stopped = inl stopped
stdout_stop (Err write.Failed) (Err stop) stopped = inr stopped

-- a text that did not go to a file
pub file_text_stop : {X : Type 0} (path : List ℕ) (written : Result X WriteError) (answer : Result X Stop)
    → IfErr answer (λ stop. MatchResult written (λ _. ⊥) (λ error. IsWriteErrorStop path error stop))
    → IfErr answer (IsTextNotWrittenStop (Some path))
file_text_stop path written (Ok x) stopped = tt
file_text_stop path (Ok x) (Err stop) stopped = elim stopped [ ]
file_text_stop path (Err write.OutOfMemory) (Err stop) stopped = (io.Other, inl stopped)
file_text_stop path (Err write.Failed) (Err stop) stopped = stopped

pub put_of_report : (report junit : Option (List ℕ)) (stop : Stop) → IsTextNotWrittenStop report stop → IsOutputWriteStop report junit stop
put_of_report None junit stop = ⊎_elim inl (λ failed. inr (inl failed))
put_of_report (Some path) junit stop = λ unwritten. inr (inr (inl (inr unwritten)))

pub put_of_junit : (report junit : Option (List ℕ)) (stop : Stop) → IsTextNotWrittenStop junit stop → IsOutputWriteStop report junit stop
put_of_junit report None stop = ⊎_elim inl (λ failed. inr (inl failed))
put_of_junit report (Some path) stop = λ unwritten. inr (inr (inr (inr unwritten)))

-- ---- files

-- a file that was not opened
pub unopened : (path : Option (List ℕ)) (stop : Stop) → IsSomeAnd path (λ path. IsFileNotOpenedStop path stop)
    → IsFileStop path stop
unopened (Some path) stop is = inl is
unopened None stop is = elim is [ ]

-- a file that the disk did not take, or that was not put in its place
pub unplaced : (path : List ℕ) (error : FileError) (stop : Stop) → error ≢ file.SameFile
    → IsFileErrorStop path error stop → IsUncommittedStop (Some path) stop
unplaced path file.OutOfMemory stop other is = (io.NotFound, inl is)
unplaced path file.SameFile stop other is = elim (other refl) [ ]
unplaced path (file.Failed reason) stop other is = (reason, is)

file_of_unplaced : (path : Option (List ℕ)) (stop : Stop) → IsUncommittedStop path stop → IsFileStop path stop
file_of_unplaced (Some path) stop is = inl (file.Failed is.0, is.1)
file_of_unplaced None stop is = elim is [ ]

-- two files that were written and not put in their places
pub put_of_unplaced : {X : Type 0} (report junit : Option (List ℕ)) (answer : Result X Stop)
    → IfErr answer (λ stop. IsUncommittedStop report stop ⊎ IsUncommittedStop junit stop) → IfErr answer (IsOutputWriteStop report junit)
put_of_unplaced report junit answer = IfErr-map answer _ _
    (λ stop. ⊎_elim (λ is. inr (inr (inl (file_of_unplaced report stop is))))
    (λ is. inr (inr (inr (file_of_unplaced junit stop is)))))

-- outlets are for the paths that words give
module _ {P W : Type 0} (pending_path : P → List ℕ) (taken : W → Option (List ℕ)) (failed : W → ℕ) where
  pub output_of_put : {X : Type 0} (committed : Option (List CommittedFile)) (report_path junit_path : Option (List ℕ))
      (report junit : Outlet P W) (answer : Result X Stop)
      → HasReceived pending_path taken failed committed report_path [] report
      → HasReceived pending_path taken failed committed junit_path [] junit
      → IfErr answer (IsOutputWriteStop (outlet_path report) (outlet_path junit))
      → IfErr answer (IsOutputStop report_path junit_path)
  output_of_put committed report_path junit_path report junit answer for_report for_junit stopped = rw (
    path_told pending_path taken failed committed report_path report [] for_report,
    path_told pending_path taken failed committed junit_path junit [] for_junit,
  ) at stopped

-- ---- runs

-- a run whose rows were not all shown and written, with the outlet of its report at the requested path
pub run_of_show : (args : RunArgs) (path : Option (List ℕ)) (error : StreamError) (stop : Stop) → path ≡ file_path_at (run_report_path args)
    → IsStreamErrorStop path error stop → IsRunWriteStop args stop
run_of_show args path stream.OutOfMemory stop is stopped = inl (inr (inl stopped))
run_of_show args path stream.NoWorker stop is stopped = inl (inl stopped)
run_of_show args path stream.Failed stop is stopped = inl (inr (inr (inl stopped)))
run_of_show args path stream.ObserverStopped stop is stopped =
    inl (inr (inr (inr (inl (of (file_path_at (run_report_path args)) (rw is at stopped))))))
  where
    of : (path : Option (List ℕ)) → IsSomeAnd path (λ path. IsWriteFailedStop path stop) → IsFileStop path stop
    of (Some path) is = inr is
    of None is = elim is [ ]
