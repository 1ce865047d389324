-- Where nothing changes, nothing is written.
use Rattle.std.proofs.Common.{◌≡◌, ◌∙◌, ◌+◌, ◌++◌, ◌∷◌, [], ℕ, List, Option, Some, None, Vec, Global, arith, refl, cond, sym}
use Rattle.std.proofs.lemmas.List.Concat.{flat_map-cons}
use Rattle.std.proofs.lemmas.List.Sums.{sum_by-cons}
use Rattle.std.specs.Prelude.{is_some, option_map}
use Rattle.std.specs.List.{count_by, flat_map}
use Rattle.rv_accept_text.specs.GoldenFiles.{new_text}
use Rattle.rv_accept_text.specs.AcceptLines.{changed_count, is_changed, one_if}
use Rattle.rv_accept_text.specs.declared.accept_summary.AcceptSummary.{AcceptSummary}
use Rattle.rv_accept_text.specs.declared.golden_file.GoldenFile.{GoldenFile}
use Rattle.rv_accept_text.specs.declared.golden_file.ListFile.{ListFile}
use Rattle.rv_files.specs.CommittedFiles.{CommittedFile}
use Rattle.rvtest_app.specs.Accepts.{file_if_text, written_files}

no_file : (text : Option (List ℕ)) (path : List ℕ) (rest : List CommittedFile) (count : ℕ)
    → cond (is_some text) 1 0 + count ≡ 0 → (count ≡ 0 → rest ≡ []) → file_if_text path text ++ rest ≡ []
no_file None path rest count none behind = behind (omega (arith, none))
no_file (Some text) path rest count none behind = absurd (omega (arith, none))

no_golden_file : (list : ListFile) (files : List GoldenFile) → count_by (is_changed list) files ≡ 0
    → flat_map (λ file. file_if_text file.resolved_path (new_text list file)) files ≡ []
no_golden_file list [] none = refl
no_golden_file list (file ∷ files) none =
    flat_map-cons (λ (file : GoldenFile). file_if_text file.resolved_path (new_text list file)) file files
    ∙ no_file (new_text list file) file.resolved_path _ (count_by (is_changed list) files)
    (sym (sum_by-cons (λ (file : GoldenFile). cond (is_changed list file) 1 0) file files) ∙ none)
    (no_golden_file list files)

no_list : (golden : List CommittedFile) (count : ℕ) (path : List ℕ) (text : Option (Vec ℕ Global))
    → count + one_if (is_some text) ≡ 0 → (count ≡ 0 → golden ≡ [])
    → golden ++ file_if_text path (option_map (λ text. text.items) text) ≡ []
no_list golden count path None none golden_none = rw (golden_none (omega (arith, none))) refl
no_list golden count path (Some text) none golden_none = absurd (omega (arith, none))

pub nothing_written : (told : AcceptSummary) → changed_count told ≡ 0 → written_files told ≡ []
nothing_written told none = no_list _ (count_by (is_changed told.list) told.files.now) told.list.path.now
    told.new.now.text none (no_golden_file told.list told.files.now)
