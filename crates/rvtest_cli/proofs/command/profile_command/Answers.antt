use Rattle.rvtest_cli.proofs.command.profile_command.Goals as goal

pub returns : goal.returns
returns c = c.subcommand_of_table.ensures
