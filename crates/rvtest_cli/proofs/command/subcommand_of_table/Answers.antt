use Rattle.rvtest_cli.proofs.command.subcommand_of_table.Goals as goal

pub returns : goal.returns
returns c = c.with_arguments.ensures _ c.bare_command-command.ensures.app
