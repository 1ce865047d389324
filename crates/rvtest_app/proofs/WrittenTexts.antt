-- Texts that were written.
use Rattle.std.proofs.Common.{◌≡◌, ◌∙◌, ◌∷◌, ℕ, List, [], Option, Some, None, false, ap, append-nil, codes, refl, subst, sym}
use Rattle.std.specs.Prelude.{IfSome, OnOk, Result}
use Rattle.std.specs.Io.KnownBytes.{Appends}
use Rattle.rv_files.specs.CommittedFiles.{CommittedFile, committed_file}
use Rattle.rvtest_app.proofs.PutTexts.{appends_nothing}
use Rattle.rvtest_app.proofs.Results.{OnOk-from, OnOk-map}
use Rattle.rvtest_app.specs.Outlets.{AreFilesCommitted, file_at, is_stdout}
use Rattle.rvtest_app.specs.CommandOutputs.{CommandOutputs, committed_if_reported, with_committed_if_reported}
use Rattle.rvtest_app.specs.WrittenTexts.{IsWrittenAt}

-- no file was placed
pub no_file : (before after : Option (List CommittedFile)) → after ≡ before → AreFilesCommitted before after (Some [])
no_file None after same = tt
no_file (Some files) after same = same ∙ ap (λ (fs : List CommittedFile). Some fs) (sym (append-nil files))

-- a text without a path went nowhere
pub written_nowhere : (path : Option (List ℕ)) (text : List ℕ) (outputs_of : CommandOutputs) → path ≡ None → IsWrittenAt path text outputs_of outputs_of
written_nowhere path text outputs_of none = rw none (record {
  out = appends_nothing outputs_of.out;
  errors = refl;
  failures = refl;
  committed = no_file outputs_of.committed outputs_of.committed refl;
})

-- a text went to standard output
pub written_out : (path : Option (List ℕ)) (text : List ℕ) (before after : CommandOutputs) → path ≡ Some (codes "-")
    → Appends before.out after.out text → after.errors ≡ before.errors → after.failures ≡ before.failures
    → after.committed ≡ before.committed → IsWrittenAt path text before after
written_out path text before after is out errors failures committed = rw is (record {
  out = out;
  errors = errors;
  failures = failures;
  committed = no_file before.committed after.committed committed;
})

-- a text went to a file
pub written_file : (path : Option (List ℕ)) (name text : List ℕ) (before after : CommandOutputs) → path ≡ Some name
    → is_stdout name ≡ false → after.out ≡ before.out → after.errors ≡ before.errors → after.failures ≡ before.failures
    → AreFilesCommitted before.committed after.committed (Some (committed_file name text ∷ [])) → IsWrittenAt path text before after
written_file path name text before after is file out errors failures committed = rw is (record {
  out = rw file (subst (λ (o : Option (List ℕ)). Appends before.out o []) (sym out) (appends_nothing before.out));
  errors = errors;
  failures = failures;
  committed = rw file committed;
})

-- ---- where it was told which files stood in their places before

placed_where_told : (earlier before after files : Option (List CommittedFile)) → AreFilesCommitted before after files
    → AreFilesCommitted (committed_if_reported earlier before) after files
placed_where_told None before after files are = tt
placed_where_told (Some committed) before after files are = are

-- a text that was written there
pub written_where_told : (earlier : Option (List CommittedFile)) (path : Option (List ℕ)) (text : List ℕ) (before after : CommandOutputs)
    → IsWrittenAt path text before after → IsWrittenAt path text (with_committed_if_reported earlier before) after
written_where_told earlier path text before after written = record {
  out = written.out;
  errors = written.errors;
  failures = written.failures;
  committed = placed_where_told earlier before.committed after.committed (Some (file_at path text)) written.committed;
}

-- a file that took no bytes, where it is told what it took
pub untold_or_empty : (committed : Option (List CommittedFile)) (P : Type 0) → P → IfSome committed (λ _. P)
untold_or_empty None P p = tt
untold_or_empty (Some files) P p = p

-- a text that went to a file which took none before, where that is told
pub written_file_where_told : {X Y : Type 0} (r : Result X Y) (earlier : Option (List CommittedFile)) (path : Option (List ℕ))
    (name text : List ℕ) (before after : CommandOutputs) (Empty : Type 0) → path ≡ Some name → is_stdout name ≡ false
    → after.out ≡ before.out → after.errors ≡ before.errors → after.failures ≡ before.failures
    → IfSome earlier (λ _. Empty)
    → (IfSome before.committed (λ _. Empty)
    → OnOk r (AreFilesCommitted before.committed after.committed (Some (committed_file name text ∷ []))))
    → OnOk r (IsWrittenAt path text (with_committed_if_reported earlier before) after)
written_file_where_told r None path name text before after Empty is file out errors failures empty committed =
    OnOk-from r _ (written_file path name text (with_committed_if_reported None before) after is file out errors failures tt)
written_file_where_told r (Some files) path name text before after Empty is file out errors failures empty committed =
    OnOk-map r _ _ (λ p. written_file path name text before after is file out errors failures p)
    (committed (untold_or_empty before.committed Empty empty))
