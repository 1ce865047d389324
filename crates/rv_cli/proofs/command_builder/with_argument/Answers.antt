use Rattle.std.proofs.Common.{subst}
use Rattle.rv_cli.specs.CommandBuilder.{IsBuilt}
use Rattle.rv_cli.proofs.Commands.{with_argument}
use Rattle.rv_cli.proofs.command_builder.with_argument.Goals as goal

pub returns : goal.returns
returns c =
    λ app rule known built.
    with_argument _ _ app rule c.arg.result c.arg.ensures (subst (IsBuilt app) c.in_ok-command.was built) known
