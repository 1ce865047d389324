-- The profile table of an image: a line for the image, a header, and a line for each function in aligned columns.
use Rattle.std.specs.Prelude.{◌==◌, ◌+◌, ◌-◌, ◌*◌, ◌/◌, ◌%◌, ◌++◌, ℕ, max, if◌then◌else◌, List, [], ◌∷◌, codes, length, replicate, take}
use Rattle.std.specs.Prelude.{Option, Some, None}
use Rattle.std.specs.Fmt.{decimal}
use Rattle.std.specs.List.{flat_map}
use Rattle.rv_cover_view.specs.Text.{right_aligned}
use Rattle.rv_count_tables.specs.Printable.{printable_name, printable_text}
use Rattle.rv_profile.specs.Profile.{FunctionCounts}
use Rattle.rv_profile.specs.declared.columns.Columns.{Columns}
use Rattle.rv_profile.specs.declared.sums.Sums.{Sums}

-- ---- columns

-- the width of a column whose largest number is `greatest`: `min_width`, or the number of its digits plus 2 if that is more
abbrev pub width : ℕ → ℕ → ℕ
width min_width greatest = max min_width (2 + length (decimal greatest))

-- the widths of the columns for an image, given the total steps and calls of its call tree
abbrev pub columns_of : Sums → Columns
columns_of sums = record {
  own = width 13 sums.steps;
  inclusive = width 11 sums.steps;
  calls = width 10 sums.calls;
}

-- the word, preceded by spaces up to `width` characters
unfoldable pub right_aligned_word : ℕ → List ℕ → List ℕ
right_aligned_word width word = replicate (width - length word) 32 ++ word

-- the heading of a column of numbers, right-aligned, and the heading of the column with their percentages
unfoldable pub share_header : ℕ → List ℕ → List ℕ
share_header width word = right_aligned_word width word ++ codes "       %"

-- the header with the names of the columns
unfoldable pub column_header : Columns → List ℕ
column_header columns = share_header columns.own (codes "self") ++ share_header columns.inclusive (codes "inclusive")
    ++ right_aligned_word columns.calls (codes "calls") ++ codes "  function\n"

-- ---- shares

-- the ratio of `part` to `whole` in hundredths of a percent, rounded to the nearest, ties up; 0 if `whole` is 0
abbrev pub hundredths : ℕ → ℕ → ℕ
hundredths part whole = if whole == 0 then 0 else (20_000 * part + whole) / (2 * whole)

-- a ratio, given in hundredths of a percent, as a percentage with two decimals, eight characters wide
unfoldable pub percent : ℕ → List ℕ
percent count = right_aligned 4 (count / 100) ++ codes "." ++ decimal (count / 10 % 10) ++ decimal (count % 10) ++ codes "%"

-- the number `part`, right-aligned in a column of this width, and the percentage of `whole` that it is
unfoldable pub share : ℕ → ℕ → ℕ → List ℕ
share width part whole = right_aligned width part ++ percent (hundredths part whole)

-- ---- lines

-- ` step` if the count is 1, and otherwise ` steps`, followed by a line feed
abbrev pub steps_text : ℕ → List ℕ
steps_text count = if count == 1 then codes " step\n" else codes " steps\n"

-- the line of the image with this path: the path and the number of steps
unfoldable pub steps_line : List ℕ → ℕ → List ℕ
steps_line path steps = printable_text path ++ codes ": " ++ decimal steps ++ steps_text steps

-- the line of a function: its numbers, each right-aligned in its column, and its name; `steps` is the total of its image
unfoldable pub function_line : Columns → ℕ → FunctionCounts → List ℕ
function_line columns steps counts = share columns.own counts.own steps ++ share columns.inclusive counts.inclusive steps ++ right_aligned columns.calls counts.calls
    ++ codes "  " ++ printable_name counts.name ++ codes "\n"

-- the lines of functions; `steps` is the total of their image
abbrev pub function_lines : Columns → ℕ → List FunctionCounts → List ℕ
function_lines columns steps functions = flat_map (function_line columns steps) functions

-- ` more function` if the count is 1, and otherwise ` more functions`, followed by a line feed
abbrev pub more_functions_text : ℕ → List ℕ
more_functions_text count = if count == 1 then codes " more function\n" else codes " more functions\n"

-- the line that says how many functions are not shown; empty if all are
abbrev pub more_line : ℕ → List ℕ
more_line hidden = if hidden == 0 then [] else decimal hidden ++ more_functions_text hidden

-- ---- an image

-- the first `count` elements of a list, or the whole list if no number is given
abbrev pub first_or_all : {X : Type 0} → Option ℕ → List X → List X
first_or_all None xs = xs
first_or_all (Some count) xs = take count xs

-- the lines after the image's own line: a header, a line for each function, and the number of functions that are not shown; if `top` is
-- given, only that many functions are shown; empty if there are no functions
abbrev pub functions_text : Option ℕ → Sums → List FunctionCounts → List ℕ
functions_text top sums [] = []
functions_text top sums (p ∷ ps) = column_header (columns_of sums) ++ function_lines (columns_of sums) sums.steps (first_or_all top (p ∷ ps))
    ++ more_line (length (p ∷ ps) - length (first_or_all top (p ∷ ps)))

-- the lines of the image with this path: its number of steps, and then its functions; if `top` is given, only that many are shown
abbrev pub image_lines : Option ℕ → List ℕ → Sums → List FunctionCounts → List ℕ
image_lines top path sums functions = steps_line path sums.steps ++ functions_text top sums functions
