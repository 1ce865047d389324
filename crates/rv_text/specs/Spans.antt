-- Lines built from spans.
use Rattle.std.specs.Prelude.{ℕ, List}
use Rattle.std.specs.Fmt.{decimal}
use Rattle.rv_text.specs.Numbers.{count_text, exit_code_text, word_digits}
use Rattle.rv_text.specs.declared.spans.Span.{Span}
use Rattle.rv_text.specs.declared.spans.Span.TheVariants as span
use Rattle.rv_text.specs.Printable.{printable_name, printable_text, printable_value}

-- the text of a span of a line
abbrev pub span_text : Span → List ℕ
span_text (span.Text text) = text.now
span_text (span.Number number) = decimal number
span_text (span.Count number noun) = count_text number noun.now
span_text (span.ExitCode code) = exit_code_text code
span_text (span.Word word) = word_digits word
span_text (span.Printable text) = printable_text text.now
span_text (span.Value value) = printable_value value.now
span_text (span.Name name) = printable_name name.now
