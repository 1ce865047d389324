use Rattle.std.specs.Prelude.{codes}
use Rattle.rv_list_errors.proofs.Messages.{adds_then}
use Rattle.rv_list_errors.proofs.list_fault.push_reason.Goals as goal

pub returns : goal.returns
returns c =
    adds_then c.args.message.now c.push.new.self c.push-2.new.self (codes ": error: invalid TOML: ") c.args.reason.now c.push.ensures
    c.push-2.ensures
