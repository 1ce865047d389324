-- What the code keeps of a header, and what it is in the definition.
use Rattle.std.proofs.Common.{◌≡◌, ◌∙◌, ℕ, List, true, false, Option, Result, Ok, Err, refl, sym, ap}
use Rattle.rv_lines.specs.declared.error.UnitError.{UnitError}
use Rattle.rv_lines.specs.declared.header.Parameters.{Parameters}
use Rattle.rv_lines.specs.declared.header.RequestedEntries.{RequestedEntries}
use Rattle.rv_lines.specs.Reading.{◌>>=◌, Read}
use Rattle.rv_lines.specs.Entries.{Strings, Entry}
use Rattle.rv_lines.specs.EntriesInside.{Summary, summary, summarised}
use Rattle.rv_lines.specs.Header.{Header, file_numbers, first_number, index_of, parameters_at, lengths_at, entries_of_version, fields_of_header, frame_at, header_at}
use Rattle.rv_lines.specs.HeaderInside.{HeaderSummary, header_summary, header_summary_of, header_summary_at}
use Rattle.rv_lines.specs.Rows.{program_rows}
use Rattle.rv_lines.specs.Units.{unit_bytes, unit_rows, rows_at}

abbrev done : {X : Type 0} → X → Result X UnitError
done x = Ok x

ok_same : {X : Type 0} (x y : X) → done x ≡ done y → x ≡ y
ok_same x y e = cc

-- ---- summaries

pub summarised_err : (index : Option ℕ) (read : Read (List Entry)) (e : UnitError) → summarised index read ≡ Err e → read ≡ Err e
summarised_err index (Ok x) e h = absurd cc
summarised_err index (Err d) e h = cc

-- the entries behind a summary
pub record Summarised (index : Option ℕ) (read : Read (List Entry)) (s : Summary) (rest : List ℕ) : Type 0 where
  pub list : List Entry
  pub is : read ≡ Ok (list, rest)
  pub sums : summary index list ≡ s

pub summarised_ok : (index : Option ℕ) (read : Read (List Entry)) (s : Summary) (rest : List ℕ) → summarised index read ≡ Ok (s, rest) → Summarised index read s rest
summarised_ok index (Ok x) s rest h =
    let e = ok_same (summary index x.0, x.1) (s, rest) h in
    record { list = x.0; is = ap (λ (y : Summary × List ℕ). done (x.0, y.1)) e; sums = ap (λ (y : Summary × List ℕ). y.0) e }
summarised_ok index (Err d) s rest h = absurd cc

-- ---- the fields of a header

module _ (strings : Strings) (version : ℕ) (parameters : Parameters) (lengths : List ℕ) where
  abbrev made : List Entry → List Entry → Header
  made directories files = record { parameters = parameters; lengths = lengths; first = first_number version; directories = directories; files = files }

  abbrev with_files : List Entry × List ℕ → Result Header UnitError
  with_files directories = entries_of_version strings version true directories.1 >>= λ files. Ok (made directories.0 files.0)

  abbrev with_directories : List ℕ → Result Header UnitError
  with_directories rest = entries_of_version strings version false rest >>= with_files

  module _ (bytes rest after : List ℕ) (h : parameters_at version bytes ≡ Ok (parameters, rest)) (k : lengths_at parameters.opcode_base rest ≡ Ok (lengths, after)) where
    fields_then : fields_of_header strings version bytes ≡ with_directories after
    unfolding fields_of_header
    fields_then = rw (h, k) refl

    pub directories_fail : (requested : RequestedEntries) (index : Option ℕ) (e : UnitError) → summarised index (entries_of_version strings version false after) ≡ Err e
        → header_summary_of requested (fields_of_header strings version bytes) ≡ Err e
    directories_fail requested index e f = ap (header_summary_of requested) (fields_then ∙ ap (λ r. r >>= with_files) (summarised_err index (entries_of_version strings version false after) e f))

    module _ (requested : RequestedEntries) (index : Option ℕ) (directories : Summary) (files : List ℕ)
        (f : summarised index (entries_of_version strings version false after) ≡ Ok (directories, files)) where
      list : Summarised index (entries_of_version strings version false after) directories files
      list = summarised_ok index (entries_of_version strings version false after) directories files f

      files_then : fields_of_header strings version bytes ≡ with_files (list.list, files)
      files_then = fields_then ∙ ap (λ r. r >>= with_files) list.is

      pub files_fail : (other : Option ℕ) (e : UnitError) → summarised other (entries_of_version strings version true files) ≡ Err e
          → header_summary_of requested (fields_of_header strings version bytes) ≡ Err e
      files_fail other e g = ap (header_summary_of requested) (files_then
          ∙ ap (λ r. r >>= λ x. Ok (made list.list x.0)) (summarised_err other (entries_of_version strings version true files) e g))

      abbrev pub header_summary_with : ℕ → Summary → Summary → HeaderSummary
      header_summary_with first one other = record { parameters = parameters; lengths = lengths; files = record { first = first; count = other.0 }; directory = one.1; file = other.1 }

      pub files_done : (other : Option ℕ) (second : Summary) (end : List ℕ) (first : ℕ) → first ≡ first_number version
          → index ≡ index_of first requested.directory → other ≡ index_of first requested.file
          → summarised other (entries_of_version strings version true files) ≡ Ok (second, end)
          → header_summary_of requested (fields_of_header strings version bytes) ≡ Ok (header_summary_with first directories second)
      files_done other second end first n i j g =
          let more = summarised_ok other (entries_of_version strings version true files) second end g in
          let a : summary (index_of (first_number version) requested.directory) list.list ≡ directories =
          ap (λ x. summary (index_of x requested.directory) list.list) (sym n) ∙ ap (λ x. summary x list.list) (sym i) ∙ list.sums in
          let b : summary (index_of (first_number version) requested.file) more.list ≡ second =
          ap (λ x. summary (index_of x requested.file) more.list) (sym n) ∙ ap (λ x. summary x more.list) (sym j) ∙ more.sums in
          ap (header_summary_of requested) (files_then ∙ ap (λ r. r >>= λ x. Ok (made list.list x.0)) more.is)
          ∙ ap (λ x. done (header_summary_with (first_number version) x (summary (index_of (first_number version) requested.file) more.list))) a
          ∙ ap (λ x. done (header_summary_with (first_number version) directories x)) b
          ∙ ap (λ x. done (header_summary_with x directories second)) (sym n)

-- ---- a whole header

header_summary_err : (requested : RequestedEntries) (read : Result Header UnitError) (e : UnitError) → header_summary_of requested read ≡ Err e → read ≡ Err e
header_summary_err requested (Ok x) e h = absurd cc
header_summary_err requested (Err d) e h = cc

pub header_fails : (strings : Strings) (requested : RequestedEntries) (bytes : List ℕ) (version : ℕ) (fields after : List ℕ) (e : UnitError) → frame_at bytes ≡ Ok ((version, fields), after)
    → header_summary_of requested (fields_of_header strings version fields) ≡ Err e → header_summary_at requested (header_at strings bytes) ≡ Err e
unfolding header_at
header_fails strings requested bytes version fields after e h b =
    let k = header_summary_err requested (fields_of_header strings version fields) e b in rw (h, k) refl

-- the rows of a program need no more of a header than what is kept
pub header_summary_rows : (requested : RequestedEntries) (read : Read Header) (b : HeaderSummary) (rest : List ℕ) → header_summary_at requested read ≡ Ok (b, rest)
    → (read >>= λ h. program_rows h.0.parameters (file_numbers h.0) h.0.lengths h.1) ≡ program_rows b.parameters b.files b.lengths rest
header_summary_rows requested (Ok x) b rest h = ap (λ (y : HeaderSummary × List ℕ). program_rows y.0.parameters y.0.files y.0.lengths y.1) (ok_same (header_summary requested x.0, x.1) (b, rest) h)
header_summary_rows requested (Err d) b rest h = absurd cc

header_summary_at_err : (requested : RequestedEntries) (read : Read Header) (e : UnitError) → header_summary_at requested read ≡ Err e → read ≡ Err e
header_summary_at_err requested (Ok x) e h = absurd cc
header_summary_at_err requested (Err d) e h = cc

-- ---- a unit

pub rows_cut_off : (strings : Strings) (bytes : List ℕ) (e : UnitError) → unit_bytes bytes ≡ Err e → rows_at strings bytes ≡ Err e
rows_cut_off strings bytes e h = ap (λ r. r >>= unit_rows strings) h

rows_in : (strings : Strings) (bytes unit : List ℕ) → unit_bytes bytes ≡ Ok unit → rows_at strings bytes ≡ unit_rows strings unit
rows_in strings bytes unit h = ap (λ r. r >>= unit_rows strings) h

unit_rows_are : (strings : Strings) (unit : List ℕ) → unit_rows strings unit ≡ (header_at strings unit >>= λ h. program_rows h.0.parameters (file_numbers h.0) h.0.lengths h.1)
unfolding unit_rows
unit_rows_are strings unit = refl

pub rows_header_fails : (strings : Strings) (requested : RequestedEntries) (bytes unit : List ℕ) (e : UnitError) → unit_bytes bytes ≡ Ok unit → header_summary_at requested (header_at strings unit) ≡ Err e
    → rows_at strings bytes ≡ Err e
rows_header_fails strings requested bytes unit e h b = rows_in strings bytes unit h ∙ unit_rows_are strings unit
    ∙ ap (λ r. r >>= λ x. program_rows x.0.parameters (file_numbers x.0) x.0.lengths x.1) (header_summary_at_err requested (header_at strings unit) e b)

pub rows_of_brief : (strings : Strings) (requested : RequestedEntries) (bytes unit : List ℕ) (b : HeaderSummary) (rest : List ℕ) → unit_bytes bytes ≡ Ok unit
    → header_summary_at requested (header_at strings unit) ≡ Ok (b, rest) → rows_at strings bytes ≡ program_rows b.parameters b.files b.lengths rest
rows_of_brief strings requested bytes unit b rest h k = rows_in strings bytes unit h ∙ unit_rows_are strings unit ∙ header_summary_rows requested (header_at strings unit) b rest k
