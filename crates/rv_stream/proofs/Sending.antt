-- Texts that go out: one more, and all that wait.
use Rattle.std.proofs.Common.{◌≡◌, ◌∙◌, ◌∷◌, ◌++◌, ℕ, List, [], Option, Some, None, map, ap, sym, refl, subst, append_assoc, append-nil, true}
use Rattle.std.specs.Prelude.{is_some}
use Rattle.std.specs.Io.KnownBytes.{Appends}
use Rattle.std.specs.List.{concat}
use Rattle.std.proofs.KnownBytes.{Appends-nil, Appends-trans}
use Rattle.std.proofs.lemmas.List.{map-append}
use Rattle.std.proofs.lemmas.List.Folds.{concat-append}
use Rattle.rv_base.specs.Counts.{one_more}
use Rattle.rv_base.specs.Sinks.{AppendsPrefix}
use Rattle.rv_counting.specs.declared_report.WriteError.{WriteError}
use Rattle.rv_counting.specs.declared_report.WriteError.TheVariants.{Failed, OutOfMemory}
use Rattle.rv_stream.specs.declared.reported_row.ReportedRow.{ReportedRow}
use Rattle.rv_counting.specs.declared_row.Row.{Row}
use Rattle.rv_stream.specs.SeenRows.{text_by_index}
use Rattle.rv_stream.specs.SentTexts.{IsSent, IsWriteInProgress}
use Rattle.rv_stream.specs.ReportedRows.{texts_of_reported}

-- nothing is told yet
pub nothing_sent : (before : Option (List ℕ)) (failures : ℕ) → IsSent before before failures failures None [] []
nothing_sent before failures = record { sent = []; whole = refl; appended = Appends-nil before; counted = refl }

-- the texts of one row more
pub texts_more : (results : List ReportedRow) (made : ReportedRow)
    → concat (texts_of_reported results) ++ made.text.items ≡ concat (texts_of_reported (results ++ made ∷ []))
texts_more results made =
    let text : ReportedRow → List ℕ = λ t. t.text.items in
    ap (λ (l : List ℕ). concat (map text results) ++ l) (sym (append-nil made.text.items))
    ∙ sym (ap concat (map-append text results (made ∷ [])) ∙ concat-append (map text results) (map text (made ∷ [])))

-- the texts of one row more, each by the index of its job
pub reports_more : (line : ℕ → Row → List ℕ) (results : List ReportedRow) (made : ReportedRow)
    → text_by_index line results ++ line made.index made.row ≡ text_by_index line (results ++ made ∷ [])
reports_more line results made =
    let text : ReportedRow → List ℕ = λ r. line r.index r.row in
    ap (λ (l : List ℕ). concat (map text results) ++ l) (sym (append-nil (line made.index made.row)))
    ∙ sym (ap concat (map-append text results (made ∷ [])) ∙ concat-append (map text results) (map text (made ∷ [])))

-- nothing has failed
pub none_failed : (failed : Option WriteError) → (is_some failed ≡ true → ⊥) → failed ≡ None
none_failed None goes = refl
none_failed (Some error) goes = absurd (goes refl)

module _ (before now : Option (List ℕ)) (failures_before failures : ℕ) (buffered text : List ℕ) where
  partly_written : (failed : Option WriteError) → failed ≡ None → IsSent before now failures_before failures failed buffered text
      → IsWriteInProgress before now failures_before failures buffered text
  partly_written failed none sent =
      subst (λ (f : Option WriteError). IsSent before now failures_before failures f buffered text) none sent

  -- a text more waits
  pub one_waits : (failed : Option WriteError) (more waits : List ℕ) → failed ≡ None → waits ≡ buffered ++ more
      → IsSent before now failures_before failures failed buffered text
      → IsSent before now failures_before failures failed waits (text ++ more)
  one_waits failed more waits none is sent =
      let was = partly_written failed none sent in
      subst (λ (f : Option WriteError). IsSent before now failures_before failures f waits (text ++ more)) (sym none)
      (record {
        sent = was.sent;
        whole = ap (λ (l : List ℕ). was.sent ++ l) is ∙ sym (append_assoc was.sent buffered more)
            ∙ ap (λ (l : List ℕ). l ++ more) was.whole;
        appended = was.appended;
        counted = was.counted;
      })

  -- there was no memory for a text more
  pub one_lacks : (failed : Option WriteError) (more waits : List ℕ) → failed ≡ None
      → IsSent before now failures_before failures failed buffered text
      → IsSent before now failures_before failures (Some OutOfMemory) waits (text ++ more)
  one_lacks failed more waits none sent =
      let was = partly_written failed none sent in (
        record {
          part = was.sent;
          rest = buffered ++ more;
          whole = ap (λ (l : List ℕ). l ++ more) (sym was.whole) ∙ append_assoc was.sent buffered more;
          appended = was.appended;
        },
        was.counted,
      )

  -- all that waits went out
  pub all_went : (failed : Option WriteError) (after : Option (List ℕ)) (count : ℕ) (waits : List ℕ) → failed ≡ None → waits ≡ []
      → Appends now after buffered → count ≡ failures → IsSent before now failures_before failures failed buffered text
      → IsSent before after failures_before count failed waits text
  all_went failed after count waits none empty appended same sent =
      let was = partly_written failed none sent in
      subst (λ (f : Option WriteError). IsSent before after failures_before count f waits text) (sym none)
      (record {
        sent = text;
        whole = ap (λ (l : List ℕ). text ++ l) empty ∙ append-nil text;
        appended = subst (Appends before after) was.whole (Appends-trans before now after was.sent buffered was.appended appended);
        counted = same ∙ was.counted;
      })

  -- a beginning of it did
  pub part_went : (failed : Option WriteError) (after : Option (List ℕ)) (count : ℕ) (waits : List ℕ) → failed ≡ None
      → AppendsPrefix now after buffered → count ≡ one_more failures
      → IsSent before now failures_before failures failed buffered text
      → IsSent before after failures_before count (Some Failed) waits text
  part_went failed after count waits none begun once sent =
      let was = partly_written failed none sent in (
        record {
          part = was.sent ++ begun.part;
          rest = begun.rest;
          whole = sym was.whole ∙ ap (λ (l : List ℕ). was.sent ++ l) begun.whole ∙ sym (append_assoc was.sent begun.part begun.rest);
          appended = Appends-trans before now after was.sent begun.part was.appended begun.appended;
        },
        once ∙ ap one_more was.counted,
      )

  -- a beginning is out, whatever happened
  pub begun : (failed : Option WriteError) → IsSent before now failures_before failures failed buffered text
      → AppendsPrefix before now text
  begun None sent = record { part = sent.sent; rest = buffered; whole = sym sent.whole; appended = sent.appended }
  begun (Some OutOfMemory) sent = sent.0
  begun (Some Failed) sent = sent.0

  -- and all of the text once what waits is out
  pub all_out : (after : Option (List ℕ)) (failed : Option WriteError) → failed ≡ None → Appends now after buffered
      → IsSent before now failures_before failures failed buffered text → Appends before after text
  all_out after failed none appended sent =
      let was = partly_written failed none sent in
      subst (Appends before after) was.whole (Appends-trans before now after was.sent buffered was.appended appended)

  pub counted_out : (failed : Option WriteError) (count : ℕ) → failed ≡ None → count ≡ failures
      → IsSent before now failures_before failures failed buffered text → count ≡ failures_before
  counted_out failed count none same sent = same ∙ (partly_written failed none sent).counted

  pub part_out : (after : Option (List ℕ)) (failed : Option WriteError) → failed ≡ None → AppendsPrefix now after buffered
      → IsSent before now failures_before failures failed buffered text → AppendsPrefix before after text
  part_out after failed none begins sent =
      let was = partly_written failed none sent in record {
        part = was.sent ++ begins.part;
        rest = begins.rest;
        whole = sym was.whole ∙ ap (λ (l : List ℕ). was.sent ++ l) begins.whole ∙ sym (append_assoc was.sent begins.part begins.rest);
        appended = Appends-trans before now after was.sent begins.part was.appended begins.appended;
      }
