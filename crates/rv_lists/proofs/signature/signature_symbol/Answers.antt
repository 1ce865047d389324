use Rattle.std.proofs.Common.{◌∙◌, sym}
use Rattle.rv_lists.proofs.Steps.{symbol_some}
use Rattle.rv_lists.proofs.signature.signature_symbol.Goals as goal

pub returns-in_ok-copy-in-Some-clause-not_empty : goal.returns-in_ok-copy-in-Some-clause-not_empty
returns-in_ok-copy-in-Some-clause-not_empty c =
    rw c.in_ok-copy-in-Some.ensures (symbol_some c.in-Some.text.now (sym c.is_signature_symbol.ensures ∙ c.if-is_signature_symbol.true))
