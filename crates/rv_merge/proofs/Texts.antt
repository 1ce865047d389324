-- The bytes of texts as a caller hands them over.
use Rattle.std.proofs.Common.{◌≡◌, ◌∙◌, ◌<◌, ℕ, List, [], length, get_or, Bool, IsTrue, sym, subst, arith, Bor}
use Rattle.std.specs.Str.{bytes_eq}
use Rattle.std.proofs.lemmas.List.{get_or-map, length-map}
use Rattle.std.proofs.lemmas.Slice.Eq.{bytes_eq-Decides}
use Rattle.rv_rows.specs.declared_read.ReadError.{ReadError}
use Rattle.rv_rows.specs.declared_read.ReadError.TheVariants as read
use Rattle.rv_rows.specs.declared_saved.SavedReport.{SavedReport}
use Rattle.rv_rows.specs.Differences.{IsSameReadError, AgreeBeforeError, first_read_error}
use Rattle.rv_rows.specs.LenientReport.{lenient_report}
use Rattle.rv_rows.specs.Saved.{IsValidReport, saved_text}
use Rattle.rv_merge.specs.declared.error.Flaw.{Flaw}
use Rattle.rv_merge.specs.MergeState.{IsExtentFlaw}
use Rattle.rv_merge.specs.Parts.{bytes_of_texts, nth_text}
use Rattle.rv_merge.specs.Refusals.{HasFlaw, IsInvalidReport}
use Rattle.rv_merge.proofs.Gathering.{has_other_kind, is_unread}

pub length-bytes_of : (texts : List (Bor (List ℕ))) → length (bytes_of_texts texts) ≡ length texts
length-bytes_of texts = length-map texts (λ (text : Bor (List ℕ)). text.now)

pub text_at-bytes_of : (texts : List (Bor (List ℕ))) (at : ℕ) (d : Bor (List ℕ)) → at < length texts
    → nth_text (bytes_of_texts texts) at ≡ (get_or texts at d).now
text_at-bytes_of texts at d within = get_or-map (λ (text : Bor (List ℕ)). text.now) texts at d [] within

-- a test of two texts
pub same_texts : (texts : List (Bor (List ℕ))) (at other : ℕ) (d : Bor (List ℕ)) (b : Bool) → at < length texts
    → other < length texts → b ≡ bytes_eq (get_or texts at d).now (get_or texts other d).now
    → (IsTrue b → nth_text (bytes_of_texts texts) at ≡ nth_text (bytes_of_texts texts) other)
    × (nth_text (bytes_of_texts texts) at ≡ nth_text (bytes_of_texts texts) other → IsTrue b)
same_texts texts at other d b within inside is =
    let one = text_at-bytes_of texts at d within in
    let two = text_at-bytes_of texts other d inside in (
      λ yes'. one ∙ (bytes_eq-Decides (get_or texts at d).now (get_or texts other d).now).0 (sym is ∙ yes') ∙ sym two,
      λ e. is ∙ (bytes_eq-Decides (get_or texts at d).now (get_or texts other d).now).1 (sym one ∙ e ∙ two),
    )

-- a text that was not read
pub unread_at : (texts : List (Bor (List ℕ))) (at : ℕ) (d : Bor (List ℕ)) (error place : ReadError)
    → at < length texts → error ≡ place → (place ≡ read.OutOfMemory → ⊥)
    → ((report : SavedReport) → IsValidReport report → saved_text report ≡ (get_or texts at d).now
    → error ≡ read.OutOfMemory)
    → (report : SavedReport) × IsValidReport report × AgreeBeforeError error (saved_text report) (get_or texts at d).now
    → IsSameReadError error (first_read_error (saved_text (lenient_report (get_or texts at d).now)) (get_or texts at d).now)
    → (at < length (bytes_of_texts texts)) × IsInvalidReport place (nth_text (bytes_of_texts texts) at)
unread_at texts at d error place within is other only begins told = (
  omega (arith, length-bytes_of texts),
  subst (λ (b : List ℕ). IsInvalidReport place b) (sym (text_at-bytes_of texts at d within))
      (subst (λ (e : ReadError). IsInvalidReport e (get_or texts at d).now) is
      (is_unread error (get_or texts at d).now (λ out. other (sym is ∙ out)) only begins told)),
)

-- and one that was read, and is no part
pub other_at : (texts : List (Bor (List ℕ))) (at : ℕ) (d : Bor (List ℕ)) (report : SavedReport) (why : Flaw)
    → at < length texts → IsValidReport report × (saved_text report ≡ (get_or texts at d).now)
    → IsExtentFlaw why report.extent
    → (at < length (bytes_of_texts texts)) × HasFlaw (bytes_of_texts texts) at why
other_at texts at d report why within is h = (
  omega (arith, length-bytes_of texts),
  has_other_kind (bytes_of_texts texts) at report why
      (record { saved = is.0; text = is.1 ∙ sym (text_at-bytes_of texts at d within) }) h,
)
