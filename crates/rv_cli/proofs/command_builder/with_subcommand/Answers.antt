use Rattle.std.proofs.Common.{subst}
use Rattle.rv_cli.specs.CommandBuilder.{HasApp, IsBuilt}
use Rattle.rv_cli.proofs.Commands.{with_subcommand_lem}
use Rattle.rv_cli.proofs.command_builder.with_subcommand.Goals as goal

pub returns : goal.returns
returns c =
    λ app under has built.
    with_subcommand_lem _ _ app under c.subcommand.result c.subcommand.ensures (subst (HasApp app) c.in_ok-command.was has)
    (subst (IsBuilt under) c.in_ok-subcommand.was built)
