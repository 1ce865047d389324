use Rattle.rv_lists.proofs.Steps.{symbols_other, symbols_two}
use Rattle.rv_lists.proofs.signature.symbols_from_names.Goals as goal

pub returns-then-names-ne2-clause-value : goal.returns-then-names-ne2-clause-value
returns-then-names-ne2-clause-value c = λ _. symbols_other c.args.names.now c.if-names-ne2.true

pub returns-clause-value : goal.returns-clause-value
returns-clause-value c = symbols_two c.args.names.now c.in_ok-begin.begin c.in_ok-end.end c.if-names-ne2.false
    c.in_ok-begin.ensures.value c.in_ok-end.ensures.value
