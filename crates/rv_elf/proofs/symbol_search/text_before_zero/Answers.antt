use Rattle.std.proofs.Common.{◌∙◌, sym, ap, take, option_map}
use Rattle.rv_elf.proofs.Texts.{text_before_zero-take}
use Rattle.rv_elf.proofs.symbol_search.text_before_zero.Goals as goal

pub returns-in_err-end : goal.returns-in_err-end
returns-in_err-end c = rw c.from_residual.ensures
    (text_before_zero-take c.args.bytes.now ∙ ap (option_map (λ n. take n c.args.bytes.now)) (sym c.in_err-end.ensures))

pub returns : goal.returns
returns c = text_before_zero-take c.args.bytes.now
    ∙ ap (option_map (λ n. take n c.args.bytes.now)) (sym c.in_ok-end.ensures)
