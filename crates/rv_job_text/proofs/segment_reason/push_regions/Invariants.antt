use Rattle.std.proofs.Common.{◌≡◌, ◌++◌, take}
use Rattle.std.specs.List.{flat_map}
use Rattle.rv_job_text.specs.ImageReasons.{region_text}
use Rattle.rv_job_text.proofs.segment_reason.push_regions.Given as goal

abbrev pub invariant-loop-region : goal.invariant-loop-region
invariant-loop-region l =
    l.bytes.items ≡ l.fn.bytes.items ++ flat_map region_text (take l.region-index l.regions)
