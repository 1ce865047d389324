use Rattle.std.proofs.Common.{subst, sym}
use Rattle.std.proofs.lemmas.List.Sums.{fold_more}
use Rattle.rv_cli.specs.CommandBuilder.{IsBuilt}
use Rattle.rvtest_cli.specs.RvtestCommand.{with_argument}
use Rattle.rvtest_cli.proofs.arguments.with_arguments.Goals as goal

pub loop-argument-preserved : goal.loop-argument-preserved
loop-argument-preserved c =
    λ app built.
    let one_more = fold_more with_argument app c.args.arguments.now c.loop-argument.argument-index _
    c.loop-argument-test.true in
    subst (λ new. IsBuilt new c.with_argument-command.result) (sym one_more)
    (c.with_argument-command.ensures _ _ c.clap_argument.ensures (c.loop-argument.invariant app built))
