-- A name is put where the map has none.
use Rattle.std.proofs.Common.{◌≡◌, ◌∙◌, false, rules}
use Rattle.rv_count_tables.specs.NamesByFunctionInside.{names_of_entries}
use Rattle.rv_count_tables.specs.ReadSteps.{with_name}
use Rattle.rv_count_tables.specs.Table.{has_name, name_of}
use Rattle.rv_count_tables.proofs.NamesOfMaps.{has_none, with_put}
use Rattle.rv_count_tables.proofs.names_by_function.NamesByFunction.add.Goals as goal
use Rattle.rv_count_tables.proofs.names_by_function.NamesByFunction.add.Goals.{in-Some-1, in-None-1}

pub returns-in_ok-insert : goal.returns-in_ok-insert
returns-in_ok-insert c =
    let none : has_name (name_of c.args.name.function c.args.self.now) ≡ false = search (rules, has_none) in
    let entries = c.in_ok-insert.ensures.entries in
    let put : names_of_entries c.insert.new.self.entries ≡ with_name c.args.name c.args.self.now =
    with_put c.args.name.function c.args.name.name c.self.inside.names.entries c.insert.new.self.entries c.args.self.now c.self.view_is
    entries none in
    elim c.match-branch-2.branch [
      | in-Some-1 w ↦ w.self-is ∙ put
      | in-None-1 w ↦ w.self-is ∙ put
    ]
