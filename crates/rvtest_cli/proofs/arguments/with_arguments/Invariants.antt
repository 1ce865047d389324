use Rattle.std.proofs.Common.{take}
use Rattle.clap.specs.Words.{App}
use Rattle.rv_cli.specs.CommandBuilder.{IsBuilt}
use Rattle.rvtest_cli.specs.RvtestCommand.{with_arguments}
use Rattle.rvtest_cli.proofs.arguments.with_arguments.Given as goal

abbrev pub invariant-loop-argument : goal.invariant-loop-argument
invariant-loop-argument l = (app : App) → IsBuilt app l.initial.command
    → IsBuilt (with_arguments app (take l.argument-index l.arguments)) l.command
