-- A code location, as the name of a symbol and the offset from it.
use Rattle.std.specs.Prelude.{ℕ, List, [], ◌++◌, Option, Some, None, codes, false}
use Rattle.std.specs.Fmt.{digits}
use Rattle.rv_text.specs.Printable.{printable_name}

-- the lower-case hexadecimal digits of a number, without leading zeros
abbrev pub hexadecimal : ℕ → List ℕ
hexadecimal number = digits 16 false number

-- the text `NAME+0xOFFSET` for the name of a symbol and the offset from it
unfoldable pub symbol_text : List ℕ × ℕ → List ℕ
symbol_text symbol = printable_name symbol.0 ++ codes "+0x" ++ hexadecimal symbol.1

-- the text ` (NAME+0xOFFSET)` for the name of a symbol and the offset from it; empty if there is no symbol
abbrev pub symbol_in_brackets : Option (List ℕ × ℕ) → List ℕ
symbol_in_brackets None = []
symbol_in_brackets (Some symbol) = codes " (" ++ symbol_text symbol ++ codes ")"
