-- Where a text and its replacement first differ.
use Rattle.std.specs.Prelude.{◌==◌, ◌&&◌, ◌++◌, ◌-◌, ◌/◌, ◌%◌, ℕ, List, codes, drop, if◌then◌else◌, length, nat_eq, take}
use Rattle.std.specs.Fmt.{decimal}
use Rattle.std.specs.List.{common_prefix_len}
use Rattle.std.specs.Str.{is_utf8}
use Rattle.rv_job_text.specs.ConsoleLines.{console_lines}
use Rattle.rv_rows.specs.Printable.{printable_text, printable_value}

-- the rest of a line: the offset, and the old and the new text from there
abbrev pub values_from : ℕ → List ℕ → List ℕ → List ℕ
values_from offset old new = codes ": byte " ++ decimal offset ++ codes ": \"" ++ printable_value (drop offset old)
    ++ codes "\" -> \"" ++ printable_value (drop offset new) ++ codes "\"\n"

-- the rest of a line: the offset of the first byte that differs between the old and the new text, and both texts from there
unfoldable pub byte_change : List ℕ → List ℕ → List ℕ
byte_change old new = values_from (common_prefix_len nat_eq old new) old new

-- the rest of a line: the offset, and both texts from there
abbrev pub values_of_both : ℕ → List ℕ → List ℕ → List ℕ
values_of_both offset first second = codes " at byte " ++ decimal offset ++ codes ": \"" ++ printable_value (drop offset first)
    ++ codes "\" and \"" ++ printable_value (drop offset second) ++ codes "\"\n"

-- the rest of a line: the offset of the first byte that differs between two texts, and both texts from there
unfoldable pub byte_difference : List ℕ → List ℕ → List ℕ
byte_difference first second = values_of_both (common_prefix_len nat_eq first second) first second

-- where the old and the new text differ: line by line if both are UTF-8, and otherwise the first byte; `source` is the name of the old text
unfoldable pub text_change : List ℕ → List ℕ → List ℕ → List ℕ
text_change source old new =
    if is_utf8 old && is_utf8 new then codes "\n" ++ console_lines source new old else byte_change old new

-- the number of bytes in a line of a signature file, with the line feed
abbrev pub word_len : ℕ
word_len = 9

-- the digits of the first word of a signature's text, or `none` if the text is empty
abbrev pub digits_at : List ℕ → List ℕ
digits_at rest = if length rest == 0 then codes "none" else take 8 rest

-- the rest of a line that shows the first word in which two signatures differ; `len` is the number of equal bytes at their beginning
abbrev pub word_change_at : ℕ → List ℕ → List ℕ → List ℕ
word_change_at len old new = codes ": word " ++ decimal (len / word_len) ++ codes ": "
    ++ printable_text (digits_at (drop (len - len % word_len) old)) ++ codes " -> "
    ++ printable_text (digits_at (drop (len - len % word_len) new)) ++ codes "\n"

-- the rest of a line: the first word that differs between the old and the new signature
unfoldable pub word_change : List ℕ → List ℕ → List ℕ
word_change old new = word_change_at (common_prefix_len nat_eq old new) old new
