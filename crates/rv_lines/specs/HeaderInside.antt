-- What the code stores of a header: the parameters of the program, the file numbers, one file and one directory.
use Rattle.std.specs.Prelude.{ℕ, List, Option, option_map, Result, Ok}
use Rattle.rv_lines.specs.declared.error.UnitError.{UnitError}
use Rattle.rv_lines.specs.declared.header.FileNumbers.{FileNumbers}
use Rattle.rv_lines.specs.declared.header.Header as declared
use Rattle.rv_lines.specs.declared.header.Parameters.{Parameters}
use Rattle.rv_lines.specs.declared.header.RequestedEntries.{RequestedEntries}
use Rattle.rv_lines.specs.Reading.{◌>>=◌, Read}
use Rattle.rv_lines.specs.Entries.{Entry}
use Rattle.rv_lines.specs.EntriesInside.{view_entry}
use Rattle.rv_lines.specs.Header.{Header, file_numbers, numbered}

-- a header with only one of its directories and one of its files, each `None` if the header does not have it
pub record HeaderSummary : Type 0 where
  pub parameters : Parameters
  pub lengths : List ℕ
  pub files : FileNumbers
  pub directory : Option Entry
  pub file : Option Entry

-- a `Header` of the code as contracts see it, with values in place of references
abbrev pub view_header : declared.Header → HeaderSummary
view_header h = record {
  parameters = h.parameters;
  lengths = h.lengths.now;
  files = h.files;
  directory = option_map view_entry h.directory;
  file = option_map view_entry h.file;
}

-- the summary of a header, with the requested directory and file
abbrev pub header_summary : RequestedEntries → Header → HeaderSummary
header_summary requested h = record {
  parameters = h.parameters;
  lengths = h.lengths;
  files = file_numbers h;
  directory = numbered h.first h.directories requested.directory;
  file = numbered h.first h.files requested.file;
}

-- the summary of the header that was read, or the error
abbrev pub header_summary_of : RequestedEntries → Result Header UnitError → Result HeaderSummary UnitError
header_summary_of requested read = read >>= λ h. Ok (header_summary requested h)

-- the summary of the header that was read, and the bytes after the header; or the error
abbrev pub header_summary_at : RequestedEntries → Read Header → Read HeaderSummary
header_summary_at requested read = read >>= λ h. Ok (header_summary requested h.0, h.1)
