use Rattle.rv_cli.proofs.Public.{its_app}
use Rattle.rvtest_cli.proofs.command.rvtest_command.Goals as goal

pub returns : goal.returns
returns c = c.with_subcommands.ensures _ (its_app _ _ c.top_command.ensures.app)
