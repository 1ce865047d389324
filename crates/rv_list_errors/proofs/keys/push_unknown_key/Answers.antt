use Rattle.std.specs.Prelude.{codes}
use Rattle.rv_list_errors.specs.NearNames.{quoted}
use Rattle.rv_list_errors.proofs.Messages.{adds_then}
use Rattle.rv_list_errors.proofs.keys.push_unknown_key.Goals as goal

pub returns : goal.returns
returns c =
    adds_then c.args.message.now c.push.new.self c.push_quoted.new.self (codes "unknown key ") (quoted c.args.key.now)
    c.push.ensures c.push_quoted.ensures
