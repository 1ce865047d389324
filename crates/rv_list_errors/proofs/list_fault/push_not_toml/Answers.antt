use Rattle.std.specs.Prelude.{◌++◌, codes}
use Rattle.std.specs.Fmt.{decimal}
use Rattle.toml.specs.Errors.{span_start}
use Rattle.rv_list_errors.specs.Explanation.{ExplainsNotToml}
use Rattle.rv_list_errors.proofs.Messages.{adds_some, adds_then, not_toml_text}
use Rattle.rv_list_errors.proofs.list_fault.push_not_toml.Goals as goal

pub returns : goal.returns
returns c alive =
    let before = c.args.message.now in
    let line = c.line_and_column-location.result.line in
    let column = c.line_and_column-location.result.column in
    let reason = c.message-2.result.now in
    adds_some before c.push_reason-2.new.message _ (ExplainsNotToml c.args.text.now (span_start c.args.error.now))
    (adds_then before c.push_number.new.self c.push_reason-2.new.message _ (codes ": error: invalid TOML: " ++ reason)
    (adds_then before c.push_number_between.new.self c.push_number.new.self (codes ":" ++ (decimal line ++ codes ":"))
    (decimal column) c.push_number_between.ensures c.push_number.ensures) c.push_reason-2.ensures) (
      reason,
      not_toml_text c.args.text.now reason (span_start c.args.error.now) c.in-Some.span.start line column
          c.in-Some.ensures.range.0 c.line_and_column-location.ensures.line c.line_and_column-location.ensures.column,
    )
