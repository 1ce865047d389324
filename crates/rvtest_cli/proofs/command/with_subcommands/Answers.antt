use Rattle.std.proofs.Common.{subst, sym}
use Rattle.std.proofs.lemmas.List.Sums.{fold_more}
use Rattle.rv_cli.specs.CommandBuilder.{HasApp}
use Rattle.rvtest_cli.specs.RvtestCommand.{with_table_command}
use Rattle.rvtest_cli.proofs.command.with_subcommands.Goals as goal

pub loop-below-preserved : goal.loop-below-preserved
loop-below-preserved c =
    λ app has.
    let one_more = fold_more with_table_command app c.args.subcommand.now c.loop-below.below-index _
    c.loop-below-test.true in
    subst (λ new. HasApp new c.with_subcommand-command.result) (sym one_more)
    (c.with_subcommand-command.ensures _ _ (c.loop-below.invariant app has) c.subcommand_of_table.ensures)
