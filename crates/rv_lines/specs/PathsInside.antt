-- The paths and headers of the code as contracts see them.
use Rattle.std.specs.Prelude.{ℕ, List, drop, Option, option_map}
use Rattle.std.specs.Result.{result_ok}
use Rattle.rv_lines.specs.declared.header.RequestedEntries.{RequestedEntries}
use Rattle.rv_lines.specs.declared.path.SourcePath.{SourcePath}
use Rattle.rv_lines.specs.Entries.{Strings}
use Rattle.rv_lines.specs.Header.{header_at}
use Rattle.rv_lines.specs.HeaderInside.{HeaderSummary, header_summary}
use Rattle.rv_lines.specs.Paths.{Path, path_with}
use Rattle.rv_lines.specs.Reading.{◌>>=◌}
use Rattle.rv_lines.specs.Units.{unit_bytes}

-- a `SourcePath` of the code as contracts see it, with the bytes in place of references
abbrev pub view_path : SourcePath → Path
view_path p = path_with (option_map (λ directory. directory.now) p.directory) p.name.now

-- the summary of the header of the unit at an offset of the section; `None` if the header is rejected
abbrev pub unit_header_summary : RequestedEntries → Strings → List ℕ → ℕ → Option HeaderSummary
unit_header_summary requested strings section unit = option_map (λ h. header_summary requested h.0) (result_ok (unit_bytes (drop unit section) >>= header_at strings))
