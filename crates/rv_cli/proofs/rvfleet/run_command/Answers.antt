use Rattle.std.proofs.Common.{rules, codes}
use Rattle.clap.specs.Words.{new_app}
use Rattle.rv_cli.proofs.Commands.{Is}
use Rattle.rv_cli.proofs.rvfleet.run_command.Goals as goal

pub returns : goal.returns
returns c =
    let begun : Is (new_app (codes "run")) c.about.result = search rules in
    let first = c.with_argument-command.ensures _ _ c.positional_argument.ensures.rule begun in
    let second = c.with_argument-command-2.ensures _ _ c.workers_argument.ensures first in
    c.with_argument.ensures _ _ c.group_argument.ensures second
