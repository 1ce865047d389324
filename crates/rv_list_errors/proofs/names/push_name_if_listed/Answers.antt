use Rattle.std.proofs.Common.{◌-◌, arith}
use Rattle.rv_list_errors.specs.NearNames.{max_listed_names}
use Rattle.rv_list_errors.proofs.NamesTold.{adds_nothing, no_name, one_name}
use Rattle.rv_list_errors.proofs.names.push_name_if_listed.Goals as goal

pub returns-then-listed_count-eq-MAX_LISTED_NAMES-clause-text : goal.returns-then-listed_count-eq-MAX_LISTED_NAMES-clause-text
returns-then-listed_count-eq-MAX_LISTED_NAMES-clause-text c =
    rw (no_name c.args.count c.args.listed_count (max_listed_names - c.args.listed_count) c.args.name.now (omega arith))
    (adds_nothing c.args.message.now)

pub returns-clause-text : goal.returns-clause-text
returns-clause-text c =
    rw (one_name c.args.count c.args.listed_count (max_listed_names - c.args.listed_count) c.args.name.now (omega arith))
    c.push_listed_name.ensures
