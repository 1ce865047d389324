use Rattle.rv_list_errors.specs.JobFaults.{ExplainsRegions}
use Rattle.rv_list_errors.proofs.Messages.{some_then}
use Rattle.rv_list_errors.proofs.RegionsTold.{regions_and_more}
use Rattle.rv_list_errors.proofs.regions.push_unaligned.Goals as goal

pub returns-then-region-ne0 : goal.returns-then-region-ne0
returns-then-region-ne0 c few =
    some_then c.args.message.now c.push.new.self c.push-then-region-ne0.new.self ExplainsRegions ExplainsRegions _
    (some_then c.args.message.now c.push_region_base.new.message c.push.new.self ExplainsRegions ExplainsRegions _
    (c.push_region_base.ensures few) c.push.ensures (λ text is. regions_and_more text _ is))
    c.push-then-region-ne0.ensures (λ text is. regions_and_more text _ is)
