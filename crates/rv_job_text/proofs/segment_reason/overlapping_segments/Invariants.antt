use Rattle.std.proofs.Common.{◌≡◌, length}
use Rattle.rv_job_text.specs.ImageReasons.{overlapping_segments}
use Rattle.rv_job_text.proofs.segment_reason.overlapping_segments.Given as goal

abbrev pub invariant-loop-one : goal.invariant-loop-one
invariant-loop-one l = overlapping_segments l.at l.rest ≡ overlapping_segments l.at l.segments

abbrev pub decreases-loop-one : goal.decreases-loop-one
decreases-loop-one l = length l.rest
