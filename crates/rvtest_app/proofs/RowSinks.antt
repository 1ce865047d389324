-- The sink of a report that is streamed, and what a run that is shown leaves in it.
use Rattle.std.proofs.Common.{◌≡◌, ◌∙◌, ◌++◌, ℕ, Bool, true, false, List, [], ◌∷◌, Option, Some, None, IfSome, Result, Ok, Err, IfErr, OnErr, OnOk, ◌⊎◌, ⊎_elim, inl, length, refl, subst, sym, ap, take}
use Rattle.std.proofs.lemmas.List.{get_or-take}
use Rattle.std.specs.Prelude.{◌&&◌, IfOk, IsSomeAnd, Vec, is_ok, is_some, not, slice_index_or}
use Rattle.std.proofs.Math.Seq.{take-length}
use Rattle.std.proofs.lemmas.Bool.{false≢true}
use Rattle.std.specs.Io.KnownBytes.{Appends}
use Rattle.std.proofs.KnownBytes.{Appends-trans}
use Rattle.std.specs.declared.alloc.Global.{Global}
use Rattle.rv_junit.specs.KnownLines.{AreLinesOf}
use Rattle.rv_rows.specs.declared_row.Row.{Row}
use Rattle.rv_expect.specs.Judgement.{JudgeView}
use Rattle.rv_rows.specs.Plans.{PlanView}
use Rattle.rv_stacks.specs.JobTables.{IsTableOfJobsAt}
use Rattle.rv_count_tables.specs.declared.table.CountTable.{CountTable}
use Rattle.rv_stream.proofs.Public.{rows_count}
use Rattle.rv_stream.specs.RunTables.{IsTableIf, IsTableOfRun, is_counted}
use Rattle.rv_stream.specs.declared.stream.StreamedRun.{StreamedRun}
use Rattle.rv_stream.specs.declared.stream_options.StreamOptions.{StreamOptions}
use Rattle.rv_stream.specs.Streams.{joined_row_texts}
use Rattle.rv_stream.specs.declared.error.StreamError.{StreamError}
use Rattle.rv_stream.specs.declared.error.StreamError.TheVariants.{ObserverStopped}
use Rattle.rv_files.specs.CommittedFiles.{CommittedFile}
use Rattle.rvtest_cli.specs.declared.run.RunArgs.{RunArgs}
use Rattle.rvtest_app.proofs.ChosenTexts.{ahead_of_shown}
use Rattle.rvtest_app.proofs.PutTexts.{taken_more}
use Rattle.rvtest_app.specs.CommandOutputs.{CommandOutputs}
use Rattle.rvtest_app.specs.IntoReports.{report_row_text, run_report_path, streamed_rows}
use Rattle.rvtest_app.specs.Outlets.{IsWrittenToOutlet, has_no_failure, outlet_path}
use Rattle.rvtest_app.specs.OutputWrites.{IsWrittenToErrorsIf}
use Rattle.rvtest_app.specs.RowSinks.{AreOutletParts, AreRowsWritten, sink_failures, sink_received}
use Rattle.rvtest_app.specs.RunOutlets.{HaveRunOutletsReceived}
use Rattle.rvtest_app.specs.Runs.{IsCountsTable, run_rows, shown_indices}
use Rattle.rvtest_app.specs.declared.outlets.Outlet.{Outlet}
use Rattle.rvtest_app.specs.declared.outlets.Outlet.TheVariants as outlet

module _ {P V : Type 0} (taken : V → Option (List ℕ)) (failed : V → ℕ) where
  -- what was written to the sink was written to the outlet
  written_into : (shell : Outlet P (Unit {0})) (before after : Option V) (whole_before whole_after : Outlet P V) (text : List ℕ)
      → AreOutletParts shell before whole_before → AreOutletParts shell after whole_after
      → AreRowsWritten taken failed before after text → IsWrittenToOutlet taken failed whole_before whole_after text
  written_into outlet.Nowhere None None b a text is_before is_after written = rw (is_before, is_after) tt
  written_into outlet.Stdout None None b a text is_before is_after written = rw (is_before, is_after) tt
  written_into (outlet.File file) (Some before) (Some after) b a text is_before is_after written =
      rw (is_before, is_after) (refl, written)
  written_into outlet.Nowhere (Some before) after b a text is_before is_after written = elim is_before [ ]
  written_into outlet.Nowhere None (Some after) b a text is_before is_after written = elim is_after [ ]
  written_into outlet.Stdout (Some before) after b a text is_before is_after written = elim is_before [ ]
  written_into outlet.Stdout None (Some after) b a text is_before is_after written = elim is_after [ ]
  written_into (outlet.File file) None after b a text is_before is_after written = elim is_before [ ]
  written_into (outlet.File file) (Some before) None b a text is_before is_after written = elim is_after [ ]

module _ {P V : Type 0} where
  -- the path of the outlet stays
  pub same_path : (shell : Outlet P (Unit {0})) (before after : Option V) (whole_before whole_after : Outlet P V)
      → AreOutletParts shell before whole_before → AreOutletParts shell after whole_after → outlet_path whole_after ≡ outlet_path whole_before
  same_path outlet.Nowhere None None b a is_before is_after = rw (is_before, is_after) refl
  same_path outlet.Stdout None None b a is_before is_after = rw (is_before, is_after) refl
  same_path (outlet.File file) (Some before) (Some after) b a is_before is_after = rw (is_before, is_after) refl
  same_path outlet.Nowhere (Some before) after b a is_before is_after = elim is_before [ ]
  same_path outlet.Nowhere None (Some after) b a is_before is_after = elim is_after [ ]
  same_path outlet.Stdout (Some before) after b a is_before is_after = elim is_before [ ]
  same_path outlet.Stdout None (Some after) b a is_before is_after = elim is_after [ ]
  same_path (outlet.File file) None after b a is_before is_after = elim is_before [ ]
  same_path (outlet.File file) (Some before) None b a is_before is_after = elim is_after [ ]

  -- an outlet with a sink has a path
  pub sink_has_path : (shell : Outlet P (Unit {0})) (sink : Option V) (whole : Outlet P V) → AreOutletParts shell sink whole
      → is_some sink ≡ true → is_some (outlet_path whole) ≡ true
  sink_has_path outlet.Nowhere None whole is there = absurd cc
  sink_has_path outlet.Stdout None whole is there = absurd cc
  sink_has_path (outlet.File file) (Some sink) whole is there = rw is refl
  sink_has_path outlet.Nowhere (Some sink) whole is there = elim is [ ]
  sink_has_path outlet.Stdout (Some sink) whole is there = elim is [ ]
  sink_has_path (outlet.File file) None whole is there = elim is [ ]

-- no texts
empty_texts : (indices : List ℕ) (rows : List Row) → joined_row_texts (report_row_text false) indices rows ≡ []
empty_texts [] rows = refl
empty_texts (index ∷ indices) [] = refl
empty_texts (index ∷ indices) (row ∷ rows) = empty_texts indices rows

negated : (a b : Bool) → a ≡ not b → b ≡ not a
negated a true is = rw is refl
negated a false is = rw is refl

-- the rows that are streamed are the part of the report that is written as they arrive
streamed : (old : Option (List Row)) (is_streaming : Bool) (indices : List ℕ) (rows : List Row) → is_streaming ≡ not (is_some old)
    → joined_row_texts (report_row_text is_streaming) indices rows ≡ streamed_rows old (shown_indices indices rows) rows
streamed (Some old) is_streaming indices rows is = rw is (empty_texts indices rows)
streamed None is_streaming indices rows is = rw is (sym (ahead_of_shown None indices rows))

-- ---- the outlets of a run

-- what the sink of a stream has received before the run, if there is one
module _ {V : Type 0} (taken : V → Option (List ℕ)) (failed : V → ℕ) where
  pub sink_known : (sink : Option V) → IfSome sink (λ s. (sink_received taken sink ≡ taken s) × (sink_failures failed sink ≡ failed s))
  sink_known None = tt
  sink_known (Some s) = (refl, refl)

module _ {P V : Type 0} (pending_path : P → List ℕ) (taken : V → Option (List ℕ)) (failed : V → ℕ) where
  still_whole : (before after : Outlet P V) (text : List ℕ) → IsWrittenToOutlet taken failed before after text → has_no_failure failed before
      → has_no_failure failed after
  still_whole outlet.Nowhere outlet.Nowhere text put none = tt
  still_whole outlet.Stdout outlet.Stdout text put none = tt
  still_whole (outlet.File before) (outlet.File after) text put none = put.1.1 ∙ none
  still_whole outlet.Nowhere outlet.Stdout text put none = elim put [ ]
  still_whole outlet.Nowhere (outlet.File after) text put none = elim put [ ]
  still_whole outlet.Stdout outlet.Nowhere text put none = elim put [ ]
  still_whole outlet.Stdout (outlet.File after) text put none = elim put [ ]
  still_whole (outlet.File before) outlet.Nowhere text put none = elim put [ ]
  still_whole (outlet.File before) outlet.Stdout text put none = elim put [ ]

  -- the outlet of the report has received the rows that were streamed, the others nothing
  pub taken_of_run : {X G : Type 0} (rows_of : X → List Row) (committed : Option (List CommittedFile)) (args : RunArgs) (old : Option (List Row))
      (is_streaming : Bool) (indices : List ℕ) (all : List Row) (ran : Result X G) (shell : Outlet P (Unit {0})) (before after : Option V)
      (whole_before whole_after junit counts : Outlet P V)
      → HaveRunOutletsReceived pending_path taken failed committed args [] (record { report = whole_before; junit = junit; counts = counts })
      → AreOutletParts shell before whole_before → AreOutletParts shell after whole_after → is_some old ≡ not is_streaming
      → IfOk ran (λ run. rows_of run ≡ all)
      → OnOk ran (AreRowsWritten taken failed before after (joined_row_texts (report_row_text is_streaming) indices all))
      → IfOk ran (λ run. HaveRunOutletsReceived pending_path taken failed committed args
      (streamed_rows old (shown_indices indices (rows_of run)) (rows_of run))
      (record { report = whole_after; junit = junit; counts = counts }))
  taken_of_run rows_of committed args old is_streaming indices all (Err stop) shell before after wb wa junit counts has was is streams same written = tt
  taken_of_run rows_of committed args old is_streaming indices all (Ok run) shell before after wb wa junit counts has was is streams same written =
      let text = streamed_rows old (shown_indices indices all) all in
      let put = written_into taken failed shell before after wb wa text was is
      (subst (AreRowsWritten taken failed before after) (streamed old is_streaming indices all (negated (is_some old) is_streaming streams))
      written) in
      rw same (record {
        report = taken_more pending_path taken failed committed (run_report_path args) [] text wb wa has.report put
            (same_path shell before after wb wa was is);
        junit = has.junit;
        counts = has.counts;
        no_report_failure = still_whole wb wa text put has.no_report_failure;
        no_junit_failure = has.no_junit_failure;
      })

-- the lines that are known of the rows of some jobs are known of the rows of the first of them
pub lines_of_first : (line : ℕ → Row → List ℕ) (indices firsts : List ℕ) (rows : List Row) (texts : List (Option (Vec ℕ Global)))
    → firsts ≡ take (length rows) indices → AreLinesOf line indices rows texts → AreLinesOf line firsts rows texts
lines_of_first line indices firsts rows texts are lines = λ k any below.
    subst (λ (index : ℕ). IfSome (slice_index_or texts k None) (λ text. text.items ≡ line index (slice_index_or rows k any)))
    (sym (ap (λ (all : List ℕ). slice_index_or all k 0) are ∙ get_or-take (length rows) indices k 0 below)) (lines k any below)

-- ---- a run that is shown

-- what holds of the rows of a run holds of the rows that it hands on
pub ran_on : {X E F : Type 0} (after : Result X E) (before : Result X F) (P : X → Type 0) → IfOk after (λ rows. before ≡ Ok rows)
    → IfOk before P → IfOk after P
ran_on {X = X} {F = F} (Ok rows) before P is holds = subst (λ (r : Result X F). IfOk r P) is holds
ran_on (Err stop) before P is holds = tt

pub done_on : {X E F : Type 0} (after : Result X E) (before : Result X F) (P : Type 0) → IfOk after (λ rows. before ≡ Ok rows)
    → OnOk before P → OnOk after P
done_on {X = X} {F = F} (Ok rows) before P is holds = subst (λ (r : Result X F). OnOk r P) is holds
done_on (Err stop) before P is holds = tt

-- and so does what follows for the rows from what an observer has seen
pub known_on : {X E F : Type 0} (after : Result X E) (before : Result X F) (S : Type 0) (rows_of : X → List Row) (P : List Row → Type 0)
    (all : List Row) → IfOk after (λ run. before ≡ Ok run) → IfOk after (λ run. rows_of run ≡ all) → OnOk before S → (S → P all)
    → IfOk after (λ run. P (rows_of run))
known_on {X = X} {F = F} (Ok run) before S rows_of P all is same seen f = subst P (sym same) (f (subst (λ (r : Result X F). OnOk r S) is seen))
known_on (Err stop) before S rows_of P all is same seen f = tt

-- the lines of the rows, and then the last line
pub shown_whole : {X E : Type 0} (r : Result X E) (rows_of : X → List Row) (start middle end : Option (List ℕ)) (texts : List ℕ)
    (totals : List Row → List ℕ) (all : List Row) → IfOk r (λ run. rows_of run ≡ all) → OnOk r (Appends start middle texts)
    → IfOk r (λ run. Appends middle end (totals (rows_of run))) → OnOk r (Appends start end (texts ++ totals all))
shown_whole (Ok run) rows_of start middle end texts totals all is first next =
    Appends-trans start middle end texts (totals all) first (subst (λ (rows : List Row). Appends middle end (totals rows)) is next)
shown_whole (Err stop) rows_of start middle end texts totals all is first next = tt

-- ---- the sender of the report's rows

-- a sender that has not failed does not stop a run
module _ {B F : Type 0} (failed : B → Option F) where
  pub goes_on : (box : Option B) → IfSome box (λ box. failed box ≡ None) → IsSomeAnd box (λ box. is_some (failed box) ≡ true) ⊎ ⊥ → ⊥
  goes_on None none stops = ⊎_elim (λ is. elim is [ ]) (λ never. never) stops
  goes_on (Some box) none stops =
      ⊎_elim (λ is. false≢true (ap is_some (sym none) ∙ is)) (λ never. never) stops

  -- a run that it stopped was not sent
  pub unsent : {X U H : Type 0} (ran : Result X StreamError) (sent : Result U H) (box : Option B)
      → IfErr ran (λ error. error ≡ ObserverStopped → IsSomeAnd box (λ box. is_some (failed box) ≡ true) ⊎ ⊥)
      → OnOk sent (IfSome box (λ box. failed box ≡ None)) → ran ≡ Err ObserverStopped → is_ok sent ≡ false
  unsent ran (Err stop) box stops goes is = refl
  unsent {X = X} ran (Ok done) box stops goes is =
      absurd (goes_on box goes (subst (λ (r : Result X StreamError). IfErr r (λ error. error ≡ ObserverStopped
      → IsSomeAnd box (λ box. is_some (failed box) ≡ true) ⊎ ⊥)) is stops refl))

-- what was sent while a run went well
pub sent_on : {X E F U H : Type 0} (after : Result X E) (before : Result X F) (sent : Result U H) (S P : Type 0)
    → IfOk after (λ rows. before ≡ Ok rows) → OnOk after (is_ok sent ≡ true) → OnOk before S → (S → OnOk sent P) → OnOk after P
sent_on {X = X} {F = F} (Ok rows) before (Ok done) S P is ok seen f = f (subst (λ (r : Result X F). OnOk r S) is seen)
sent_on (Ok rows) before (Err stop) S P is ok seen f = absurd (false≢true ok)
sent_on (Err stop) before sent S P is ok seen f = tt

-- the file of the report failed only if there is one
pub report_of_failure : {X U H : Type 0} (after before : Result X StreamError) (sent : Result U H) (P : Type 0)
    → IfErr after (λ error. error ≡ ObserverStopped → before ≡ Err ObserverStopped)
    → IfErr before (λ error. error ≡ ObserverStopped → is_ok sent ≡ false) → OnErr sent P → IfErr after (λ error. error ≡ ObserverStopped → P)
report_of_failure (Ok rows) before sent P is was failed = tt
report_of_failure (Err stop) before (Err error) P is was failed = λ same. failed
report_of_failure {X = X} (Err stop) before (Ok done) P is was failed = λ same.
    absurd (false≢true (sym (subst (λ (r : Result X StreamError). IfErr r (λ error. error ≡ ObserverStopped → true ≡ false)) (is same) was refl)))

-- what a sender has sent was written to the sink
module _ {V : Type 0} (taken : V → Option (List ℕ)) (failed : V → ℕ) where
  pub sent_to : (start : Option (List ℕ)) (failures : ℕ) (before after : Option V) (text : List ℕ)
      → IfSome before (λ sink. (start ≡ taken sink) × (failures ≡ failed sink)) → is_some after ≡ is_some before
      → IfSome after (λ sink. Appends start (taken sink) text × (failed sink ≡ failures)) → AreRowsWritten taken failed before after text
  sent_to start failures None None text kept there sent = tt
  sent_to start failures (Some before) (Some after) text kept there sent =
      (subst (λ (start : Option (List ℕ)). Appends start (taken after) text) kept.0 sent.0, sent.1 ∙ kept.1)
  sent_to start failures None (Some after) text kept there sent = absurd cc
  sent_to start failures (Some before) None text kept there sent = absurd cc

-- ---- where a run is shown

pub shown_on_errors : {X G : Type 0} (ran : Result X G) (to_stderr : Bool) (text : List ℕ) (before after : CommandOutputs) → to_stderr ≡ true
    → after.out ≡ before.out → OnOk ran (Appends before.errors after.errors text) → OnOk ran (after.failures ≡ before.failures)
    → after.committed ≡ before.committed → OnOk ran (IsWrittenToErrorsIf to_stderr text before after)
shown_on_errors (Err stop) to_stderr text before after is out appended counted committed = tt
shown_on_errors (Ok rows) to_stderr text before after is out appended counted committed = rw is (out, inl (appended, counted), committed)

pub shown_on_out : {X G : Type 0} (ran : Result X G) (to_stderr : Bool) (text : List ℕ) (before after : CommandOutputs) → to_stderr ≡ false
    → OnOk ran (Appends before.out after.out text) → after.errors ≡ before.errors → after.failures ≡ before.failures
    → after.committed ≡ before.committed → OnOk ran (IsWrittenToErrorsIf to_stderr text before after)
shown_on_out (Err stop) to_stderr text before after is appended errors failures committed = tt
shown_on_out (Ok rows) to_stderr text before after is appended errors failures committed = rw is (appended, errors, failures, committed)

-- ---- the counts of a run that is shown

-- the table of a run that was counted in it is that of the jobs that are shown
pub table_shown : {E : Type 0} (ran : Result StreamedRun E) (options : StreamOptions) (is_requested stacks : Bool) (judging : JudgeView)
    (plan : PlanView) (indices : List ℕ) → options.counts_instructions ≡ is_requested && not stacks
    → IfOk ran (λ run. run.rows ≡ run_rows options.max_failures judging plan indices)
    → IfOk ran (λ run. IsTableOfRun options plan indices run.table)
    → IfOk ran (λ run. IfSome run.table (IsCountsTable stacks plan (shown_indices indices run.rows)))
table_shown (Err stop) options is_requested stacks judging plan indices counts rows table = tt
table_shown (Ok run) options is_requested stacks judging plan indices counts rows table =
    of options.counts_instructions options.max_failures stacks counts rows table
  where
    uncounted : (t : Option CountTable) (P : CountTable → Type 0) → t ≡ None → IfSome t P
    uncounted None P none = tt
    uncounted (Some table) P none = cc

    counted : (t : Option CountTable) (P : CountTable → Type 0) → IsSomeAnd t P → IfSome t P
    counted None P some = elim some [ ]
    counted (Some table) P some = some

    not_both : (is_requested : Bool) → true ≡ is_requested && not true → ⊥
    not_both true is = false≢true (sym is)
    not_both false is = false≢true (sym is)

    of : (counts : Bool) (most : Option ℕ) (stacks : Bool) → counts ≡ is_requested && not stacks → run.rows ≡ run_rows most judging plan indices
        → IsTableIf (is_counted counts most) plan indices run.table
        → IfSome run.table (IsCountsTable stacks plan (shown_indices indices run.rows))
    of counts (Some most) stacks is rows table = uncounted run.table _ table
    of false None stacks is rows table = uncounted run.table _ table
    of true None true is rows table = absurd (not_both is_requested is)
    of true None false is rows table =
        let long = ap length rows ∙ rows_count plan indices in
        let all : shown_indices indices run.rows ≡ indices = ap (λ n. take n indices) long ∙ take-length indices in
        subst (λ ps. IfSome run.table (IsTableOfJobsAt plan ps)) (sym all) (counted run.table _ table)
