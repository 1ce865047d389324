use Rattle.std.proofs.Common.{refl, subst}
use Rattle.std.specs.Prelude.{Option}
use Rattle.toml.specs.Data.{Data}
use Rattle.rv_list_errors.specs.Explanation.{IsKeyAndValue, missing_key_text}
use Rattle.rv_list_errors.proofs.Messages.{adds_some}
use Rattle.rv_list_errors.proofs.values.push_key_and_value.Goals as goal

pub returns-in-None : goal.returns-in-None
returns-in-None c =
    let key = c.args.key.now in
    adds_some c.args.message.now c.push_missing_key.new.message (missing_key_text key) _ c.push_missing_key.ensures
    (subst (λ (o : Option Data). IsKeyAndValue key o (missing_key_text key)) (rw c.in-None.is at c.value_at_key.ensures) refl)
