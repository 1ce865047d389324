use Rattle.rv_choice.proofs.Stops.{unknown_stop}
use Rattle.rv_choice.proofs.unknown_name.unknown_name_stop.Goals as goal

pub returns : goal.returns
returns c = unknown_stop c.args.list_path.now c.args.jobs.now c.args.name.now _ _ c.rejection.ensures c.unknown_name_message.ensures
