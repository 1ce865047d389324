use Rattle.rv_cli.proofs.Commands.{its_app}
use Rattle.rv_cli.proofs.rvfleet.fleet_command.Goals as goal

pub returns : goal.returns
returns c =
    let top = its_app _ _ c.top_command.ensures in
    let first = c.with_subcommand-command.ensures _ _ top c.raw_command.ensures in
    let second = c.with_subcommand-command-2.ensures _ _ first c.one_image_command.ensures in
    c.with_subcommand.ensures _ _ second c.run_command.ensures
