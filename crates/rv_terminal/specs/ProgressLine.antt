-- The line that shows how many jobs are done, and how many of them failed.
use Rattle.std.specs.Prelude.{ℕ, Bool, List, [], ◌∷◌, Option, Some, None, ◌++◌, ◌-◌, ◌==◌, codes, if◌then◌else◌, length, not, slice_get}
use Rattle.std.specs.Fmt.{decimal}

-- the end of the progress line: the number of jobs of the run, and how many of the finished ones failed
abbrev pub jobs_and_failed_text : ℕ → ℕ → List ℕ
jobs_and_failed_text jobs failed = decimal jobs ++ codes " jobs done, " ++ decimal failed ++ codes " failed"

-- the progress line: the number of finished jobs, the number of jobs of the run, and how many of the finished ones failed
abbrev pub progress_text : ℕ → ℕ → ℕ → List ℕ
progress_text done jobs failed = decimal done ++ codes " of " ++ jobs_and_failed_text jobs failed

-- whether other output ends in the middle of a line after a text with this last byte; if the text is empty, whether it did before
-- (`was_mid_line`)
abbrev pub is_mid_line : Bool → Option ℕ → Bool
is_mid_line was_mid_line None = was_mid_line
is_mid_line was_mid_line (Some last) = not (last == 10)

-- the last byte of a text, or `None` if it is empty
abbrev pub last_byte : List ℕ → Option ℕ
last_byte text = slice_get text (length text - 1)

-- ---- the bytes written to the terminal

-- the bytes that show the progress line: a carriage return and the counts, which overwrite the earlier ones
abbrev pub counts_text : ℕ → ℕ → ℕ → List ℕ
counts_text done jobs failed = 13 ∷ progress_text done jobs failed

-- the bytes that remove the progress line: a carriage return, and the sequence that erases the line; empty if the line is not shown
abbrev pub erasing_text : Bool → List ℕ
erasing_text is_shown = if is_shown then 13 ∷ 27 ∷ codes "[K" else []

-- the text, or an empty text if the Bool says that other output ends in the middle of a line
abbrev pub text_unless_blocked : Bool → List ℕ → List ℕ
text_unless_blocked is_blocked text = if is_blocked then [] else text

-- the bytes of the progress line around other output: if the line was shown, it is removed before, and shown again afterwards unless the
-- output ends in the middle of a line
abbrev pub text_around_write : Bool → Bool → List ℕ → List ℕ
text_around_write was_shown is_blocked counts = if was_shown then erasing_text was_shown ++ text_unless_blocked is_blocked counts else []
