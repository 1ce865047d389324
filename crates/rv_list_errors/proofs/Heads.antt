-- The heads of faults, by what a second look at the text finds.
use Rattle.std.proofs.Common.{◌≡◌, ◌∙◌, ◌-◌, ◌++◌, ◌<◌, ℕ, Bool, true, false, List, [], Option, Some, None, ap, cond, refl, subst, sym}
use Rattle.std.specs.Prelude.{⊤}
use Rattle.std.proofs.lemmas.Str.{IsUtf8-from_is_utf8, is_utf8-from_IsUtf8}
use Rattle.std.specs.Str.{IsUtf8, is_utf8}
use Rattle.toml.specs.Data.{Items, Members}
use Rattle.toml.specs.Parse.{parse_document}
use Rattle.rv_lists.specs.JobList.{document_of}
use Rattle.rv_lists.specs.declared.error.JobError.{JobError}
use Rattle.rv_list_errors.specs.FaultHeads.{job_array_elements, fault_head, fault_location, job_names, location_in_document}
use Rattle.rv_list_errors.specs.FaultMessages.{ExplainsFaultIn, IsFaultLineOfText}
use Rattle.rv_list_errors.specs.JobFaults.{HasHeadAndTail, ExplainsJobFault, element_at}
use Rattle.rv_list_errors.specs.Lines.{BeginsWith}
use Rattle.rv_list_locations.specs.JobLocations.{job_lines}

pub read_document : (text : List ℕ) (ms : Members) → IsUtf8 text → parse_document text ≡ Some ms → document_of text ≡ Some ms
read_document text ms valid parsed =
    ap (λ (test : Bool). cond test (parse_document text) None) (is_utf8-from_IsUtf8 text valid) ∙ parsed

-- in a document
pub head_in_list : (file text : List ℕ) (ms : Members) (lines : List ℕ) (names : List (Option (List ℕ))) (fault : JobError)
    → IsUtf8 text → parse_document text ≡ Some ms → lines ≡ job_lines text → names ≡ job_names ms
    → file ++ fault_location lines names fault.job ≡ fault_head file text fault
head_in_list file text ms lines names fault valid parsed these those =
    (λ i. file ++ fault_location (these i) (those i) fault.job)
    ∙ ap (λ document. file ++ location_in_document text document fault.job) (sym (read_document text ms valid parsed))

pub refused_document : (text : List ℕ) → (IsUtf8 text → parse_document text ≡ None) → document_of text ≡ None
refused_document text refused = of_test (is_utf8 text) refl
  where
    of_test : (test : Bool) → is_utf8 text ≡ test → cond test (parse_document text) None ≡ None
    of_test true is = refused (IsUtf8-from_is_utf8 text is)
    of_test false is = refl

-- where there is none
pub head_without_document : (file text : List ℕ) (fault : JobError) → (IsUtf8 text → parse_document text ≡ None)
    → file ++ [] ≡ fault_head file text fault
head_without_document file text fault refused =
    ap (λ document. file ++ location_in_document text document fault.job) (sym (refused_document text refused))

-- ---- and what is told behind them

-- a message that ends so begins with its head
pub begins_of_ends : (IsSo : List ℕ → Type 0) (head other message : List ℕ) → head ≡ other → HasHeadAndTail IsSo head message
    → BeginsWith other message
begins_of_ends IsSo head other message same (told, is, e) = (told, e ∙ ap (λ h. h ++ told) same)

-- in a document
pub told_in_list : (file text : List ℕ) (ms : Members) (lines : List ℕ) (names : List (Option (List ℕ))) (jobs : Items)
    (fault : JobError) (message : List ℕ) → IsUtf8 text → parse_document text ≡ Some ms → lines ≡ job_lines text
    → names ≡ job_names ms → jobs ≡ job_array_elements ms
    → HasHeadAndTail (λ told. 0 < fault.job → ExplainsJobFault names (element_at jobs (fault.job - 1)) fault.what told)
    (file ++ fault_location lines names fault.job) message → IsFaultLineOfText file text fault message
told_in_list file text ms lines names jobs fault message valid parsed these those them (told, is, e) =
    subst (λ (document : Option Members). HasHeadAndTail (ExplainsFaultIn document fault) (file ++ location_in_document text document fault.job) message)
    (sym (read_document text ms valid parsed)) (
      told,
      λ some. subst (λ (ns : List (Option (List ℕ))). ExplainsJobFault ns (element_at (job_array_elements ms) (fault.job - 1)) fault.what told)
          those (subst (λ (js : Items). ExplainsJobFault names (element_at js (fault.job - 1)) fault.what told) them (is some)),
      e ∙ (λ i. (file ++ fault_location (these i) (those i) fault.job) ++ told),
    )

-- where there is none
pub told_without_document : (file text : List ℕ) (fault : JobError) (message : List ℕ)
    → (IsUtf8 text → parse_document text ≡ None) → HasHeadAndTail (λ told. ⊤) (file ++ []) message
    → IsFaultLineOfText file text fault message
told_without_document file text fault message refused (told, is, e) =
    subst (λ (document : Option Members). HasHeadAndTail (ExplainsFaultIn document fault) (file ++ location_in_document text document fault.job) message)
    (sym (refused_document text refused)) (told, tt, e)
