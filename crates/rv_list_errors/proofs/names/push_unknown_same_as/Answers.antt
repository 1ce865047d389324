use Rattle.toml.specs.View.{table_view}
use Rattle.rv_list_errors.specs.FaultHeads.{borrowed_names}
use Rattle.rv_list_errors.proofs.Messages.{some_so}
use Rattle.rv_list_errors.proofs.WrongKinds.{same_as_alone}
use Rattle.rv_list_errors.proofs.names.push_unknown_same_as.Goals as goal

pub returns-in-Nothing : goal.returns-in-Nothing
returns-in-Nothing c =
    some_so c.args.message.now c.push_name_fault.new.message _ _ c.push_name_fault.ensures
    (same_as_alone (borrowed_names c.args.list.now.names.items) (table_view c.args.table.now))
