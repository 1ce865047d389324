use Rattle.rv_text.proofs.Public.{ended}
use Rattle.rv_job_text.specs.ImageReasons.{unfit_segment_text}
use Rattle.rv_job_text.proofs.segment_reason.push_unfit_segment.Goals as goal

pub returns-in_ok-push_outside_segment-in-Some : goal.returns-in_ok-push_outside_segment-in-Some
unfolding unfit_segment_text
returns-in_ok-push_outside_segment-in-Some c =
    rw c.in-Some.is
    (ended _ _ _ _ _ _ c.in_ok-push_outside_segment-in-Some.ensures (rw c.as_slice.ensures at c.push_regions.ensures))

pub returns-in-None : goal.returns-in-None
unfolding unfit_segment_text
returns-in-None c = rw c.in-None.is c.push_text.ensures
