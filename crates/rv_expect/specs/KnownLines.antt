-- The lines of a list of known failures: a name, then the reason after a `#`.
use Rattle.std.specs.Prelude.{◌==◌, ◌-◌, ℕ, Bool, List, drop, length, map, not, take}
use Rattle.std.specs.Borrow.{Bor}
use Rattle.std.specs.Char.{is_ascii_whitespace}
use Rattle.std.specs.List.{after_first, before_first, prefix_len, slice_split, suffix_len}

-- whether a byte is a line feed
abbrev pub is_line_feed : ℕ → Bool
is_line_feed byte = byte == 10

-- whether a byte is `#`
abbrev pub is_hash : ℕ → Bool
is_hash byte = byte == 35

-- the lines of a text, without their line feeds
abbrev pub lines_of : List ℕ → List (List ℕ)
lines_of text = slice_split is_line_feed text

-- the lines that a list of references points to
abbrev pub borrowed_lines : List (Bor (List ℕ)) → List (List ℕ)
borrowed_lines lines = map (λ line. line.now) lines

-- the text without leading white space
abbrev pub without_leading_space : List ℕ → List ℕ
without_leading_space text = drop (prefix_len is_ascii_whitespace text) text

-- the text without trailing white space
abbrev pub without_trailing_space : List ℕ → List ℕ
without_trailing_space text = take (length text - suffix_len is_ascii_whitespace text) text

-- the text without leading and trailing white space
abbrev pub trimmed : List ℕ → List ℕ
trimmed text = without_trailing_space (without_leading_space text)

-- the name in a line: the part before the first `#`, trimmed; empty if there is none
unfoldable pub name_text : List ℕ → List ℕ
name_text line = trimmed (before_first is_hash line)

-- the reason in a line: the part after the first `#`, trimmed; empty if there is none
unfoldable pub reason_text : List ℕ → List ℕ
reason_text line = trimmed (after_first is_hash line)

-- whether a line has a name: the text before the first `#` is not only white space
abbrev pub has_name : List ℕ → Bool
has_name line = not (length (name_text line) == 0)
