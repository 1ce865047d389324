-- What the map has at a function is its name.
use Rattle.std.proofs.Common.{rules}
use Rattle.rv_count_tables.proofs.NamesOfMaps.{found_in_map}
use Rattle.rv_count_tables.proofs.names_by_function.NamesByFunction.find.Goals as goal

pub returns-in-Some : goal.returns-in-Some
returns-in-Some c = search (rules, found_in_map)

pub returns-in-None : goal.returns-in-None
returns-in-None c = search (rules, found_in_map)
