-- How a run reached its end, as text with the symbols of the job's image.
use Rattle.std.specs.Prelude.{ℕ, List, [], Option, Some, None, Result, Ok, Err}
use Rattle.rv_rows.specs.declared_elf_error.ImageError.{ImageError}
use Rattle.rv_rows.specs.declared_image.Image.{Image}
use Rattle.rv_rows.specs.Image.{image_of}
use Rattle.rv_rows.specs.declared_isa.Isa.{Isa}
use Rattle.rv_calls.specs.declared.run.Calls.{Calls}
use Rattle.rv_calls.specs.CallsLine.{calls_text}
use Rattle.rv_rows.specs.declared_row.RowEnd.{RowEnd}
use Rattle.rv_calls.specs.declared_trace.Trace.{Trace}
use Rattle.rv_calls.specs.Text.{trace_text}

-- the result of `text` for an image and its file; empty if the file is not a valid image
abbrev pub text_in_image : Result Image ImageError → List ℕ → (Image → List ℕ → List ℕ) → List ℕ
text_in_image (Ok image) file text = text image file
text_in_image (Err error) file text = []

-- the result of `text` for the image in a file; empty if there is no file or it is not a valid image
unfoldable pub text_in_file : Isa → Option (List ℕ) → (Image → List ℕ → List ℕ) → List ℕ
text_in_file isa None text = []
text_in_file isa (Some file) text = text_in_image (image_of isa file) file text

-- the text of a trace, with the symbols of the file; empty if there is no trace
abbrev pub optional_trace_text : Isa → Option (List ℕ) → RowEnd → Option Trace → List ℕ
optional_trace_text isa file end None = []
optional_trace_text isa file end (Some trace) = text_in_file isa file (λ image bytes. trace_text image bytes trace end)

-- the text of the calls that had not returned, with the symbols of the file; empty if there are none
abbrev pub optional_calls_text : Isa → Option (List ℕ) → Option Calls → List ℕ
optional_calls_text isa file None = []
optional_calls_text isa file (Some calls) = text_in_file isa file (λ image bytes. calls_text image bytes calls)
