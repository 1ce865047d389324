-- The state of reading a report, independent of how it is stored in memory.
use Rattle.std.specs.Prelude.{string_bytes}
use Rattle.rv_report.specs.declared.lenient_rows.ReaderState.{ReaderState}
use Rattle.rv_report.specs.LenientReport.{ReaderStateView}

-- the state of reading a report that the fields of `ReaderState` represent
abbrev pub reader_state_view : ReaderState → ReaderStateView
reader_state_view state = record {
  numbers = state.numbers.items;
  rows = state.rows.items;
  extent = state.extent;
  number = state.number;
  name = string_bytes state.name;
  ending = state.ending;
  steps = state.steps;
  console = state.console.items;
  has_signature = state.has_signature;
  count = state.count;
  words = state.words.items;
  is_in_row = state.is_in_row;
  stage = state.stage;
}
