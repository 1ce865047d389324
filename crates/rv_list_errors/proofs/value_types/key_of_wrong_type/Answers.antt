use Rattle.toml.specs.View.{table_view}
use Rattle.rv_list_errors.proofs.WrongKinds.{found_in_names}
use Rattle.rv_list_errors.proofs.value_types.key_of_wrong_type.Goals as goal

pub returns : goal.returns
returns c = found_in_names (table_view c.args.table.now) c.args.keys.now c.first_key_of_wrong_type.result c.first_key_of_wrong_type.ensures
