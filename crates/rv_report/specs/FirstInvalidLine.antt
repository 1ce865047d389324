-- The first invalid line of a text: some report begins with the lines before it, but no report begins with these lines and this one.
use Rattle.std.specs.Prelude.{◌≡◌, ◌==◌, ◌-◌, ℕ, if◌then◌else◌, List, [], ◌∷◌, ◌++◌}
use Rattle.rv_report.specs.declared.read.ReadError.{ReadError}
use Rattle.rv_report.specs.declared.read.ReadError.TheVariants.{OutOfMemory, Line, Truncated}
use Rattle.rv_report.specs.declared.saved.SavedReport.{SavedReport}
use Rattle.rv_report.specs.Saved.{IsValidReport, saved_text}
use Rattle.rv_report.specs.Differences.{line_feed_count}

-- the first `count` lines of a text, each with its line feed if it has one
unfoldable pub first_lines : ℕ → List ℕ → List ℕ
first_lines count [] = []
first_lines count (b ∷ bs) =
    if count == 0 then [] else b ∷ first_lines (if b == 10 then count - 1 else count) bs

-- the text of some report begins with these bytes
abbrev pub IsReportPrefix : List ℕ → Type 0
IsReportPrefix bytes = (report : SavedReport) × (rest : List ℕ) × IsValidReport report × (saved_text report ≡ bytes ++ rest)

-- `line` is the number of the first invalid line: some report begins with the lines before it, but no report begins with these lines and
-- this one
pub record IsFirstInvalidLine (line : ℕ) (bytes : List ℕ) : Type 0 where
  pub before : IsReportPrefix (first_lines (line - 1) bytes)
  pub refused : IsReportPrefix (first_lines line bytes) → ⊥

-- the error names the first invalid line of the bytes; if it is `Truncated`, some report begins with all complete lines of the bytes;
-- memory may always run out
abbrev pub IsFirstError : ReadError → List ℕ → Type 0
IsFirstError OutOfMemory bytes = Unit {0}
IsFirstError (Line line) bytes = IsFirstInvalidLine line bytes
IsFirstError Truncated bytes = IsReportPrefix (first_lines (line_feed_count bytes) bytes)
