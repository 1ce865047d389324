use Rattle.std.proofs.lemmas.Result.{err_from_is_err_and}
use Rattle.rv_lines.proofs.SectionFacts.{tables_then, line_str_fails, str_fails}
use Rattle.rv_lines.proofs.sections.tables_of.Goals as goal

pub returns : goal.returns
returns c = tables_then c.args.file.now c.in_ok-lines.lines.now c.in_ok-line_str.line_str.now c.in_ok-str.str.now
    c.in_ok-lines.ensures.value c.in_ok-line_str.ensures.value c.in_ok-str.ensures.value

pub returns-in_err-line_str : goal.returns-in_err-line_str
returns-in_err-line_str c =
    let p = err_from_is_err_and c.from_residual-in_err-line_str.result c.from_residual-in_err-line_str.ensures.1 in
    rw (p.1, p.2) (line_str_fails c.args.file.now c.in_ok-lines.lines.now c.in_err-line_str.field-0.0 c.in_ok-lines.ensures.value
    c.in_err-line_str.ensures.value)

pub returns-in_err-str : goal.returns-in_err-str
returns-in_err-str c =
    let p = err_from_is_err_and c.from_residual-in_err-str.result c.from_residual-in_err-str.ensures.1 in
    rw (p.1, p.2) (str_fails c.args.file.now c.in_ok-lines.lines.now c.in_ok-line_str.line_str.now c.in_err-str.field-0.0
    c.in_ok-lines.ensures.value c.in_ok-line_str.ensures.value c.in_err-str.ensures.value)
