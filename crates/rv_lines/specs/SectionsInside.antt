-- The line tables of the code as contracts see them.
use Rattle.rv_lines.specs.declared.tables.LineTables as declared
use Rattle.rv_lines.specs.EntriesInside.{view_strings}
use Rattle.rv_lines.specs.Sections.{Tables}

-- the `LineTables` of the code as contracts see them, with the bytes in place of references
abbrev pub view_tables : declared.LineTables → Tables
view_tables t = record { lines = t.lines.now; strings = view_strings t.strings }
