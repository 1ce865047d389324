use Rattle.std.proofs.Common.{[], None, inl, inr, refl, ⊎_elim}
use Rattle.rvtest_app.proofs.CountedRuns.{counts_put, no_counts_put, path_given}
use Rattle.rvtest_app.proofs.Results.{OnErr-from, OnOk-map}
use Rattle.rvtest_app.proofs.StopLemmas.{IfErr-map}
use Rattle.rvtest_app.proofs.WrittenTexts.{written_nowhere, written_where_told}
use Rattle.rvtest_app.proofs.run.ListRun.write_counts.Goals as goal

pub returns-in-Nowhere-clause-counts_written : goal.returns-in-Nowhere-clause-counts_written
returns-in-Nowhere-clause-counts_written g c = λ path earlier has.
    no_counts_put _ path _ _ _ _ (rw c.in-Nowhere.is at has)
    (written_where_told earlier None [] _ _ (written_nowhere None [] _ refl))

pub returns-in-Ok-clause-counts_written : goal.returns-in-Ok-clause-counts_written
returns-in-Ok-clause-counts_written g c = λ path earlier has.
    let given = path_given g.F.Outputs.pending_path g.F.File.Sink.accepted g.F.File.Sink.failure_count earlier path c.args.outlet [] has
    c.in_default.not-Nowhere in
    OnOk-map c.write_to_outlet.result _ _
    (counts_put _ path _ _ _ _ _ given (rw c.as_bytes.ensures.value c.in-Ok.ensures.text))
    (c.write_to_outlet.ensures.written path earlier has)

pub returns-in-Ok-clause-path_given : goal.returns-in-Ok-clause-path_given
returns-in-Ok-clause-path_given g c = λ path earlier has.
    OnErr-from c.write_to_outlet.result _
    (path_given g.F.Outputs.pending_path g.F.File.Sink.accepted g.F.File.Sink.failure_count earlier path c.args.outlet [] has
    c.in_default.not-Nowhere)

pub returns-in-Err-clause-path_given : goal.returns-in-Err-clause-path_given
returns-in-Err-clause-path_given g c = λ path earlier has.
    path_given g.F.Outputs.pending_path g.F.File.Sink.accepted g.F.File.Sink.failure_count earlier path c.args.outlet [] has
    c.in_default.not-Nowhere

pub returns-in-Ok-clause-stopped : goal.returns-in-Ok-clause-stopped
returns-in-Ok-clause-stopped g c =
    IfErr-map c.write_to_outlet.result _ _ (λ stop. ⊎_elim (λ failed. inr (inl failed)) (λ file. inr (inr (inl file))))
    c.write_to_outlet.ensures.stopped

pub returns-in-Err-clause-stopped : goal.returns-in-Err-clause-stopped
returns-in-Err-clause-stopped g c = ⊎_elim inl (λ is. inr (inr (inr is))) c.in-Err.ensures.stopped
