use Rattle.std.proofs.Common.{refl, subst}
use Rattle.std.specs.Prelude.{codes}
use Rattle.toml.specs.View.{table_view}
use Rattle.rv_list_errors.specs.JobFaults.{ExplainsWrongTypeOfKey, ExplainsFirstWrongType}
use Rattle.rv_list_errors.proofs.Messages.{adds_some, some_so}
use Rattle.rv_list_errors.proofs.value_types.push_wrong_type.Goals as goal

pub returns-in-Some : goal.returns-in-Some
returns-in-Some c =
    let ms = table_view c.args.table.now in
    some_so c.args.message.now c.push_value_of_wrong_type.new.message _ (ExplainsFirstWrongType ms) c.push_value_of_wrong_type.ensures
    (λ told is. subst (λ found. ExplainsWrongTypeOfKey ms found told) c.in-Some.ensures is)

pub returns-in-None : goal.returns-in-None
returns-in-None c =
    let ms = table_view c.args.table.now in
    let words = codes "invalid type" in
    adds_some c.args.message.now c.push.new.self words (ExplainsFirstWrongType ms) c.push.ensures
    (subst (λ found. ExplainsWrongTypeOfKey ms found words) c.in-None.ensures refl)
