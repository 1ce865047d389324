use Rattle.std.proofs.Common.{rules, codes}
use Rattle.clap.specs.Words.{new_app}
use Rattle.rv_cli.proofs.Commands.{Is}
use Rattle.rv_cli.proofs.rvfleet.raw_command.Goals as goal

pub returns : goal.returns
returns c =
    let begun : Is (new_app (codes "raw")) c.about.result = search rules in
    c.with_argument.ensures _ _ c.budget_argument.ensures begun
