use Rattle.std.proofs.Common.{take}
use Rattle.clap.specs.Words.{App}
use Rattle.rv_cli.specs.CommandBuilder.{HasApp}
use Rattle.rvtest_cli.specs.RvtestCommand.{with_subcommands}
use Rattle.rvtest_cli.proofs.command.with_subcommands.Given as goal

abbrev pub invariant-loop-below : goal.invariant-loop-below
invariant-loop-below l = (app : App) → HasApp app l.initial.command
    → HasApp (with_subcommands app (take l.below-index l.subcommand)) l.command
