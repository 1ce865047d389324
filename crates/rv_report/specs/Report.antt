-- The text of a report: six parts for each row, each of whole lines, and a last line.
use Rattle.std.specs.Prelude.{◌==◌, if◌then◌else◌, ◌+◌, ℕ, List, [], ◌∷◌, ◌++◌, length, Option}
use Rattle.std.specs.Prelude.{Some, None, codes, map}
use Rattle.std.specs.List.{flat_map, find}
use Rattle.std.specs.Str.{bytes_eq}
use Rattle.std.specs.Fmt.{decimal}
use Rattle.hex.specs.Hex.{encode_lower}
use Rattle.rv_text.specs.Numbers.{word_digits}
use Rattle.rv_elf.specs.ErrorNames.{image_error_name}
use Rattle.rv_elf.specs.declared.error.ImageError.TheVariants as image
use Rattle.rv_machine.specs.Faults.{fault_name}
use Rattle.rv_report.specs.declared.row.Refusal.{Refusal}
use Rattle.rv_report.specs.declared.row.Refusal.TheVariants as refusal
use Rattle.rv_report.specs.declared.row.Row.{Row}
use Rattle.rv_report.specs.declared.row.RowEnd.{RowEnd}
use Rattle.rv_report.specs.declared.row.RowEnd.TheVariants as ending
use Rattle.rv_report.specs.declared.row.Verdict.{Verdict}
use Rattle.rv_report.specs.declared.row.Verdict.TheVariants as verdict

-- the text as a line, which ends with a line feed
abbrev pub line : List ℕ → List ℕ
line text = text ++ 10 ∷ []

-- the name of a refusal in a report; the image error for lack of memory is never a refusal, so its name does not matter
abbrev pub refusal_name : Refusal → List ℕ
refusal_name refusal.ImageUnreadable = codes "image-unreadable"
refusal_name refusal.ImageTooLong = codes "image-too-long"
refusal_name refusal.ReferenceUnreadable = codes "reference-unreadable"
refusal_name refusal.ReferenceTooLong = codes "reference-too-long"
refusal_name (refusal.Image why) = image_error_name why

-- all refusals that a row can have
abbrev pub row_refusals : List Refusal
row_refusals = refusal.ImageUnreadable ∷ refusal.ImageTooLong ∷ refusal.ReferenceUnreadable
    ∷ refusal.ReferenceTooLong ∷ map refusal.Image (image.ShortHeader ∷ image.BadMagic
    ∷ image.Not32Bit ∷ image.NotLittleEndian ∷ image.BadVersion ∷ image.NotExecutable
    ∷ image.NotRiscv ∷ image.ProgramTable ∷ image.Dynamic ∷ image.SegmentSizes ∷ image.SegmentFile
    ∷ image.NoSegment ∷ image.EntryOdd ∷ image.EntryAlign ∷ image.SegmentMap ∷ image.SegmentOverlap
    ∷ image.SectionTable ∷ image.NoSymbols ∷ image.SymbolTable ∷ image.StringTable ∷ image.NoBegin
    ∷ image.NoEnd ∷ image.SignatureRange ∷ [])

-- the refusal with this name, or `None` if there is none
abbrev pub refusal_named : List ℕ → Option Refusal
refusal_named name = find (λ r. bytes_eq name (refusal_name r)) row_refusals

-- the line `end ..`, which says how a job ended
unfoldable pub end_line : RowEnd → List ℕ
end_line (ending.Exit code) = line (codes "end exit " ++ decimal code)
end_line (ending.Fault kind pc value) =
    line (codes "end fault " ++ fault_name kind
    ++ codes " pc=" ++ word_digits pc ++ codes " value=" ++ word_digits value)
end_line ending.Budget = line (codes "end budget")
end_line (ending.Refused why) = line (codes "end refused " ++ refusal_name why)

-- the text, or a dash if it is empty
abbrev pub dash_if_empty : List ℕ → List ℕ
dash_if_empty text = if length text == 0 then codes "-" else text

-- the line `console ..` with the bytes of the console as lower-case hexadecimal digits
unfoldable pub console_line : List ℕ → List ℕ
console_line bytes = line (codes "console " ++ dash_if_empty (encode_lower bytes))

-- the line of a word of a signature: its eight hexadecimal digits
abbrev pub word_line : ℕ → List ℕ
word_line word = line (word_digits word)

-- the line `signature ..` with the number of words, followed by a line for each word; the line `signature -` if no signature is requested
unfoldable pub signature_lines : Option (List ℕ) → List ℕ
signature_lines None = line (codes "signature -")
signature_lines (Some words) = line (codes "signature " ++ decimal (length words))
    ++ flat_map word_line words

-- the name of a verdict in a report
abbrev pub verdict_name : Verdict → List ℕ
verdict_name verdict.Unasked = codes "none"
verdict_name verdict.Pass = codes "pass"
verdict_name verdict.Fail = codes "fail"

-- the text of the row of the job at the index `index` of the list, counted from 0; the text has the job's number, counted from 1
unfoldable pub row_text : ℕ → Row → List ℕ
row_text index row = line (codes "job " ++ decimal (index + 1) ++ codes " " ++ row.name)
    ++ end_line row.ending
    ++ line (codes "steps " ++ decimal row.steps)
    ++ console_line row.console
    ++ signature_lines row.signature
    ++ line (codes "verdict " ++ verdict_name row.verdict)

-- the text of consecutive rows of a list, of which the first is at the index `index`
unfoldable pub rows_text : ℕ → List Row → List ℕ
rows_text index [] = []
rows_text index (row ∷ rows) = row_text index row ++ rows_text (index + 1) rows

-- the last line of the report of a whole list, with the number of rows
unfoldable pub done_line : ℕ → List ℕ
done_line count = line (codes "done " ++ decimal count)

-- the text of the report of a whole list with these rows
unfoldable pub report_text : List Row → List ℕ
report_text rows = rows_text 0 rows ++ done_line (length rows)
