-- The calls that have not returned, as shown to a person.
use Rattle.std.specs.Prelude.{ℕ, ◌-◌, ◌==◌, List, [], ◌++◌, codes, length, reverse, take, if◌then◌else◌, Option, Some, None}
use Rattle.std.specs.Fmt.{decimal}
use Rattle.std.specs.List.{flat_map}
use Rattle.rv_trace.specs.declared_image.Image.{Image}
use Rattle.rv_trace.specs.SymbolSearch.{symbol_at}
use Rattle.rv_trace.specs.Report.{line}
use Rattle.rv_trace.specs.Symbol.{symbol_text}
use Rattle.rv_trace.specs.TextWords.{word_digits}
use Rattle.rv_calls.specs.declared.frames.Frame.{Frame}
use Rattle.rv_calls.specs.declared.run.Calls.{Calls}

-- a code address as symbol and offset, or as a hexadecimal number if it has no symbol
abbrev pub symbol_or_address : Option (List ℕ × ℕ) → ℕ → List ℕ
symbol_or_address (Some symbol) address = symbol_text symbol
symbol_or_address None address = word_digits address

-- a code address as symbol and offset, with the symbols of the image in this file, or as a hexadecimal number if it has no symbol
abbrev pub address_text : Image → List ℕ → ℕ → List ℕ
address_text image file address = symbol_or_address (symbol_at image file address) address

-- an arrow, and the address of the call instruction that made a frame
abbrev pub call_text : Image → List ℕ → Frame → List ℕ
call_text image file frame = codes " <- " ++ address_text image file frame.call

-- the maximum number of calls that are shown; with the pc these are 32 addresses
abbrev pub max_shown : ℕ
max_shown = 31

-- the number of further calls; empty if there are none
unfoldable pub more_calls_text : ℕ → List ℕ
more_calls_text count = if count == 0 then [] else codes " <- " ++ decimal count ++ codes " more"

-- the number of calls that are not shown; empty if all are shown
abbrev pub hidden_count_text : List Frame → List ℕ
hidden_count_text frames = more_calls_text (length frames - max_shown)

-- the final pc, the address of each call, innermost first, up to the maximum number, and the number of further calls
unfoldable pub call_addresses_text : Image → List ℕ → ℕ → List Frame → List ℕ
call_addresses_text image file pc frames = address_text image file pc
    ++ flat_map (call_text image file) (take max_shown (reverse frames)) ++ hidden_count_text frames

-- the line with the pc at the end of the run and the calls that had not returned
unfoldable pub calls_line : Image → List ℕ → ℕ → List Frame → List ℕ
calls_line image file pc frames = line (codes "     calls: " ++ call_addresses_text image file pc frames)

-- the line of the calls that had not returned; empty if all had returned
abbrev pub calls_text : Image → List ℕ → Calls → List ℕ
calls_text image file calls =
    if length calls.frames == 0 then [] else calls_line image file calls.pc calls.frames
