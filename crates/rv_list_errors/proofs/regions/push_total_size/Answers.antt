use Rattle.std.proofs.Common.{inr, refl}
use Rattle.rv_list_errors.specs.JobFaults.{ExplainsRegions}
use Rattle.rv_list_errors.proofs.Messages.{adds_some}
use Rattle.rv_list_errors.proofs.regions.push_total_size.Goals as goal

pub returns : goal.returns
returns c =
    adds_some c.args.message.now c.push_number_between.new.self _ ExplainsRegions c.push_number_between.ensures (inr (_, refl))
