use Rattle.rv_list_errors.proofs.NamesFound.{number_of_place}
use Rattle.rv_list_errors.proofs.list.number_of_given_name.Goals as goal

pub returns-in-Some : goal.returns-in-Some
returns-in-Some c = number_of_place c.args.name.now c.args.names.now _ c.in-Some.ensures.value

pub returns-in-None : goal.returns-in-None
returns-in-None c = number_of_place c.args.name.now c.args.names.now _ c.in-None.ensures.value
