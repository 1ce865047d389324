-- The lines and columns of a text, counted from 1.
use Rattle.std.specs.Prelude.{◌+◌, ◌==◌, ℕ, Bool, List, count_by, not, take}
use Rattle.std.specs.Int.{is_in_range}
use Rattle.std.specs.List.{after_last}

-- whether a byte is a line feed
abbrev pub is_line_feed : ℕ → Bool
is_line_feed byte = byte == 10

-- the line of the byte at an index, counted from 1
abbrev pub line_at : ℕ → List ℕ → ℕ
line_at index text = 1 + count_by is_line_feed (take index text)

-- whether a character of UTF-8 begins at a byte: it is not a continuation byte
abbrev pub begins_character : ℕ → Bool
begins_character byte = not (is_in_range 0x80 0xBF byte)

-- the column of the byte at an index, counted from 1: one more than the number of characters between the last line feed and the index
abbrev pub column_at : ℕ → List ℕ → ℕ
column_at index text = 1 + count_by begins_character (after_last is_line_feed (take index text))

-- the number of lines of a text; a line feed at its end is followed by one more, empty line
abbrev pub text_line_count : List ℕ → ℕ
text_line_count text = 1 + count_by is_line_feed text
