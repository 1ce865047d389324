-- What an observer has seen of a stream: rows in order, each with the index of its job and its text.
use Rattle.std.specs.Prelude.{◌≡◌, ◌<◌, ◌≤◌, ◌++◌, ℕ, List, length, map, slice_index_or}
use Rattle.std.specs.List.{concat}
use Rattle.rv_counting.specs.declared_row.Row.{Row}
use Rattle.rv_stream.specs.declared.reported_row.ReportedRow.{ReportedRow}
use Rattle.rv_stream.specs.ReportedRows.{rows_of_reported}

-- the texts that `row_text` returns for the reported rows and the indices of their jobs, one after another
abbrev pub text_by_index : (ℕ → Row → List ℕ) → List ReportedRow → List ℕ
text_by_index row_text reported = concat (map (λ (r : ReportedRow). row_text r.index r.row) reported)

-- the reported row has this index, and the text that `row_text` returns for the index and the row
pub record IsReportedRowAt (row_text : ℕ → Row → List ℕ) (index : ℕ) (reported : ReportedRow) : Type 0 where
  pub index_is : reported.index ≡ index
  pub text : reported.text.items ≡ row_text reported.index reported.row

-- the observer has seen exactly these rows, in order, with their texts and the indices of their jobs, which are the first of `indices`
pub record HasSeenRows (has_seen : List ReportedRow → Type 0) (row_text : ℕ → Row → List ℕ) (indices : List ℕ) (rows : List Row) : Type 0 where
  pub reported : List ReportedRow
  pub seen : has_seen reported
  pub same_rows : rows_of_reported reported ≡ rows
  pub few : length reported ≤ length indices
  pub each : (k : ℕ) (any : ReportedRow) → k < length reported → IsReportedRowAt row_text (slice_index_or indices k 0) (slice_index_or reported k any)

-- the observer has seen a prefix of these rows, in order, with their texts and the indices of their jobs
pub record HasSeenSomeRows (has_seen : List ReportedRow → Type 0) (row_text : ℕ → Row → List ℕ) (indices : List ℕ) (rows : List Row) : Type 0 where
  pub first : List Row
  pub rest : List Row
  pub whole : first ++ rest ≡ rows
  pub seen : HasSeenRows has_seen row_text indices first
