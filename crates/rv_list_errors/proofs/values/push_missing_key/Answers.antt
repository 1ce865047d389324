use Rattle.std.proofs.Common.{◌++◌}
use Rattle.std.specs.Prelude.{codes}
use Rattle.rv_list_errors.proofs.Messages.{adds_then}
use Rattle.rv_list_errors.proofs.values.push_missing_key.Goals as goal

pub returns : goal.returns
returns c =
    let key = c.args.key.now in
    adds_then c.args.message.now c.push.new.self c.push-3.new.self (codes "missing key \"") (key ++ codes "\"") c.push.ensures
    (adds_then c.push.new.self c.push-2.new.self c.push-3.new.self key (codes "\"") c.push-2.ensures c.push-3.ensures)
