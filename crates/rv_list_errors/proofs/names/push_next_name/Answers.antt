use Rattle.std.proofs.Common.{◌-◌, List, ℕ, arith}
use Rattle.rv_list_errors.specs.NearNames.{max_listed_names, names_from, present}
use Rattle.rv_list_errors.proofs.NamesTold.{adds_nothing, take_none}
use Rattle.rv_list_errors.proofs.names.push_next_name.Goals as goal

pub returns-in-Some-clause-listed_count : goal.returns-in-Some-clause-listed_count
unfolding present
returns-in-Some-clause-listed_count c = rw c.in-Some.is c.push_name_if_listed.ensures.listed_count

pub returns-in-Some-clause-text : goal.returns-in-Some-clause-text
unfolding present
returns-in-Some-clause-text c = rw c.in-Some.is c.push_name_if_listed.ensures.text

pub returns-in-None-clause-listed_count : goal.returns-in-None-clause-listed_count
unfolding present
returns-in-None-clause-listed_count c = rw c.in-None.is (omega arith)

pub returns-in-None-clause-text : goal.returns-in-None-clause-text
unfolding present names_from
returns-in-None-clause-text c =
    rw (c.in-None.is, take_none {X = List ℕ} (max_listed_names - c.args.listed_count)) (adds_nothing c.args.message.now)
