-- The tables of three sections that were read.
use Rattle.std.proofs.Common.{◌≡◌, ℕ, List, Ok, Err, refl}
use Rattle.std.specs.Prelude.{codes}
use Rattle.rv_lines.specs.declared.error.LinesError.{LinesError}
use Rattle.rv_lines.specs.Sections.{bytes_named, tables_of}

pub tables_then : (file lines line_str str : List ℕ) → bytes_named file (codes ".debug_line") (codes ".zdebug_line") ≡ Ok lines
    → bytes_named file (codes ".debug_line_str") (codes ".zdebug_line_str") ≡ Ok line_str
    → bytes_named file (codes ".debug_str") (codes ".zdebug_str") ≡ Ok str
    → tables_of file ≡ Ok (record { lines = lines; strings = record { line_str = line_str; str = str } })
unfolding tables_of
tables_then file lines line_str str a b c = rw (a, b, c) refl

pub line_str_fails : (file lines : List ℕ) (e : LinesError) → bytes_named file (codes ".debug_line") (codes ".zdebug_line") ≡ Ok lines
    → bytes_named file (codes ".debug_line_str") (codes ".zdebug_line_str") ≡ Err e → tables_of file ≡ Err e
unfolding tables_of
line_str_fails file lines e a b = rw (a, b) refl

pub str_fails : (file lines line_str : List ℕ) (e : LinesError) → bytes_named file (codes ".debug_line") (codes ".zdebug_line") ≡ Ok lines
    → bytes_named file (codes ".debug_line_str") (codes ".zdebug_line_str") ≡ Ok line_str
    → bytes_named file (codes ".debug_str") (codes ".zdebug_str") ≡ Err e → tables_of file ≡ Err e
unfolding tables_of
str_fails file lines line_str e a b c = rw (a, b, c) refl
