use Rattle.rv_list_errors.specs.JobFaults.{ExplainsRegions}
use Rattle.rv_list_errors.proofs.Messages.{some_then}
use Rattle.rv_list_errors.proofs.RegionsTold.{regions_and_more}
use Rattle.rv_list_errors.proofs.regions.push_region_past_end.Goals as goal

pub returns : goal.returns
returns c few =
    some_then c.args.message.now c.push_region_base.new.message c.push_number_between.new.self ExplainsRegions ExplainsRegions _
    (c.push_region_base.ensures few) c.push_number_between.ensures (λ text is. regions_and_more text _ is)
