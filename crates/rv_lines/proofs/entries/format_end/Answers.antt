use Rattle.std.proofs.Common.{◌∙◌, ◌+◌, ◌-◌, ap, false}
use Rattle.std.proofs.lemmas.Result.{err_from_is_err_and}
use Rattle.rv_lines.specs.Entries.{fields_at}
use Rattle.rv_lines.specs.EntriesInside.{path_and_rest}
use Rattle.rv_lines.proofs.EntryLoops.{format_on, format_ends, format_done}
use Rattle.rv_lines.proofs.entries.format_end.Goals as goal

pub returns-in_err-field : goal.returns-in_err-field
returns-in_err-field c =
    let format = c.args.format.now in
    let p = err_from_is_err_and c.from_residual.result c.from_residual.ensures.1 in
    rw (p.1, p.2) (format_ends c.loop.has_path c.in_err-field.field-0.0 format.count c.loop.counter c.loop.rest.now
    (path_and_rest false (fields_at format.count format.bytes.now)) c.loop-test.true c.in_err-field.ensures c.loop.invariant)

pub loop-preserved : goal.loop-preserved
loop-preserved c =
    let format = c.args.format.now in
    ap (λ b. path_and_rest b (fields_at (format.count - (c.loop.counter + 1)) c.in_ok-field.after.now)) c.has_path_with-has_path.ensures
    ∙ format_on c.loop.has_path format.count c.loop.counter c.loop.rest.now c.in_ok-field.after.now c.in_ok-field.field
    (path_and_rest false (fields_at format.count format.bytes.now)) c.loop-test.true c.in_ok-field.ensures c.loop.invariant

pub returns : goal.returns
returns c =
    let format = c.args.format.now in
    format_done c.loop.has_path format.count c.loop.counter c.loop.rest.now (path_and_rest false (fields_at format.count format.bytes.now))
    c.loop-test.false c.loop.invariant
