-- Reading: take what a text says, write it, and compare.
use Rattle.std.proofs.Common.{◌≡◌, ◌∙◌, ℕ, true, false, List, sym, ap, subst}
use Rattle.std.proofs.lemmas.Bool.{false≢true}
use Rattle.std.proofs.lemmas.Slice.Eq.{bytes_eq-Decides}
use Rattle.std.specs.Str.{bytes_eq}
use Rattle.std.specs.Prelude.{Result, Ok, Err, IfErr}
use Rattle.std.specs.Result.{IsErrAnd}
use Rattle.rv_report.specs.declared.read.FirstWordState.TheVariants as word
use Rattle.rv_report.specs.declared.read.ReadError.{ReadError}
use Rattle.rv_report.specs.declared.read.ReadError.TheVariants.{OutOfMemory, Line, Truncated}
use Rattle.rv_report.specs.declared.saved.SavedReport.{SavedReport}
use Rattle.rv_report.specs.LenientReport.{lenient_report}
use Rattle.rv_report.specs.Saved.{IsValidReport, saved_text}
use Rattle.rv_report.specs.Differences.{AgreeBeforeError, IsSameReadError, read_error_from}
use Rattle.rv_report.proofs.Told.{tells}
use Rattle.rv_report.proofs.Cut.{said_can_be}
use Rattle.rv_report.proofs.Reports.{says_itself}
use Rattle.rv_report.specs.FirstInvalidLine.{IsFirstError, IsReportPrefix}
use Rattle.rv_report.proofs.LeastTold.{told_is_least, begun_is_cut}

pub can_be : (bytes : List ℕ) (r : SavedReport) → r ≡ lenient_report bytes → IsValidReport r
can_be bytes r s = subst (λ (x : SavedReport). IsValidReport x) (sym s) (said_can_be bytes)

pub found_is : (bytes text : List ℕ) (r : SavedReport) → r ≡ lenient_report bytes → text ≡ saved_text r
    → true ≡ bytes_eq text bytes
    → IsValidReport r × (saved_text r ≡ bytes)
found_is bytes text r s t e = (can_be bytes r s, sym t ∙ (bytes_eq-Decides text bytes).0 (sym e))

pub only_is : (bytes : List ℕ) (r : SavedReport) → r ≡ lenient_report bytes → (wanted : SavedReport) → IsValidReport wanted
    → saved_text wanted ≡ bytes → r ≡ wanted
only_is bytes r s wanted h e = s ∙ ap lenient_report (sym e) ∙ says_itself wanted h

pub never : (bytes text : List ℕ) (r : SavedReport) → r ≡ lenient_report bytes → text ≡ saved_text r → false ≡ bytes_eq text bytes
    → (wanted : SavedReport) → IsValidReport wanted → saved_text wanted ≡ bytes → ⊥
never bytes text r s t other wanted h e =
    let same = t ∙ ap saved_text (only_is bytes r s wanted h e) ∙ e in
    false≢true (other ∙ (bytes_eq-Decides text bytes).1 same)

pub err_is : (bytes text : List ℕ) (r : SavedReport) (error : ReadError) → r ≡ lenient_report bytes → text ≡ saved_text r
    → error ≡ read_error_from 1 word.NotStarted text bytes → (x : SavedReport) × IsValidReport x × AgreeBeforeError error (saved_text x) bytes
err_is bytes text r error s t f = (
  r,
  can_be bytes r s,
  subst (λ (e : ReadError). AgreeBeforeError e (saved_text r) bytes)
      (sym (f ∙ ap (λ (x : List ℕ). read_error_from 1 word.NotStarted x bytes) t))
      (tells (saved_text r) bytes),
)

is_index : (error place : ReadError) → error ≡ place → IsSameReadError error place
is_index OutOfMemory place e = tt
is_index (Line line) place e = sym e
is_index Truncated place e = sym e

pub place_is : (bytes text : List ℕ) (r : SavedReport) (error : ReadError) → r ≡ lenient_report bytes → text ≡ saved_text r
    → error ≡ read_error_from 1 word.NotStarted text bytes
    → IsSameReadError error (read_error_from 1 word.NotStarted (saved_text (lenient_report bytes)) bytes)
place_is bytes text r error s t f =
    is_index error (read_error_from 1 word.NotStarted (saved_text (lenient_report bytes)) bytes)
    (f ∙ ap (λ (x : List ℕ). read_error_from 1 word.NotStarted x bytes) (t ∙ ap saved_text s))

pub least_is : (bytes text : List ℕ) (r : SavedReport) (error : ReadError) → r ≡ lenient_report bytes → text ≡ saved_text r
    → error ≡ read_error_from 1 word.NotStarted text bytes → IsFirstError error bytes
least_is bytes text r error s t f =
    told_is_least bytes error (f ∙ ap (λ (x : List ℕ). read_error_from 1 word.NotStarted x bytes) (t ∙ ap saved_text s))

pub cut_is : (bytes text : List ℕ) (r : SavedReport) (error : ReadError) → r ≡ lenient_report bytes → text ≡ saved_text r
    → error ≡ read_error_from 1 word.NotStarted text bytes → IsReportPrefix bytes → IsSameReadError error Truncated
cut_is bytes text r error s t f begins =
    is_index error Truncated (f ∙ ap (λ (x : List ℕ). read_error_from 1 word.NotStarted x bytes) (t ∙ ap saved_text s)
    ∙ begun_is_cut bytes begins)

-- nothing is said of the text where memory ran out
pub err_of : {X : Type 0} (bytes : List ℕ) (result : Result X ReadError)
    → IsErrAnd result (λ error. error ≡ OutOfMemory)
    → IfErr result (λ error. (x : SavedReport) × IsValidReport x × AgreeBeforeError error (saved_text x) bytes)
err_of bytes (Ok x) h = tt
err_of bytes (Err error) h =
    (lenient_report bytes, said_can_be bytes, subst (λ (e : ReadError). AgreeBeforeError e (saved_text (lenient_report bytes)) bytes) (sym h) tt)
