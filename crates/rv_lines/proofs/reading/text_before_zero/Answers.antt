use Rattle.std.proofs.Common.{◌∙◌, sym, ap, take, option_map}
use Rattle.rv_lines.proofs.Positions.{text_by_position}
use Rattle.rv_lines.proofs.reading.text_before_zero.Goals as goal

pub returns-in_err-end-clause-text : goal.returns-in_err-end-clause-text
returns-in_err-end-clause-text c = rw c.from_residual.ensures
    (text_by_position c.args.bytes.now ∙ ap (option_map (λ n. take n c.args.bytes.now)) (sym c.in_err-end.ensures))

pub returns-clause-text : goal.returns-clause-text
returns-clause-text c = text_by_position c.args.bytes.now
    ∙ ap (option_map (λ n. take n c.args.bytes.now)) (sym c.in_ok-end.ensures)
