use Rattle.std.proofs.Common.{rules}
use Rattle.rvtest_cli.proofs.command.top_command.Goals as goal

pub returns-clause-app : goal.returns-clause-app
returns-clause-app c = search rules
