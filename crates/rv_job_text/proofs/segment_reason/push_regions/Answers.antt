use Rattle.rv_job_text.specs.ImageReasons.{region_text, regions_text}
use Rattle.rv_text.proofs.Public.{all_told, one_more}
use Rattle.rv_job_text.proofs.segment_reason.push_regions.Goals as goal

pub loop-region-preserved : goal.loop-region-preserved
loop-region-preserved c =
    one_more region_text c.args.regions.now c.loop-region.region-index _ _ _ _ c.loop-region-test.true
    c.loop-region.invariant c.in_ok-push_address_range.ensures

pub returns : goal.returns
unfolding regions_text
returns c =
    all_told region_text c.args.regions.now c.loop-region.region-index _ _ c.loop-region-test.false c.loop-region.invariant
