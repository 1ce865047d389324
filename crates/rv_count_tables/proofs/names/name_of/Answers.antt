-- The first name that is found is the name.
use Rattle.std.proofs.Common.{Bor, ◌∙◌, Option, Some, option_map, ap, sym}
use Rattle.rv_count_tables.specs.declared.table.FunctionName.{FunctionName}
use Rattle.rv_count_tables.proofs.NamesOfSpots.{found}
use Rattle.rv_count_tables.proofs.names.name_of.Goals as goal

pub returns-in-Some : goal.returns-in-Some
returns-in-Some c =
    ap Some c.as_str.ensures
    ∙ ap (λ (o : Option FunctionName). option_map (λ (n : FunctionName). n.name) o)
    (ap (λ (o : Option (Bor FunctionName)). option_map (λ (b : Bor FunctionName). b.now) o) (sym c.in-Some.is) ∙ c.first_of.ensures)
    ∙ found c.args.function c.args.names.now

pub returns-in-None : goal.returns-in-None
returns-in-None c =
    ap (λ (o : Option FunctionName). option_map (λ (n : FunctionName). n.name) o)
    (ap (λ (o : Option (Bor FunctionName)). option_map (λ (b : Bor FunctionName). b.now) o) (sym c.in-None.is) ∙ c.first_of.ensures)
    ∙ found c.args.function c.args.names.now
