use Rattle.rv_job_text.specs.ImageReasons.{segment_overlap_text}
use Rattle.rv_job_text.proofs.segment_reason.push_segment_overlap.Goals as goal

pub returns-in-Some : goal.returns-in-Some
unfolding segment_overlap_text
returns-in-Some c = rw (← c.in-Some.ensures) c.push_segment_pair.ensures

pub returns-in-None : goal.returns-in-None
unfolding segment_overlap_text
returns-in-None c = rw (← c.in-None.ensures) c.push_text.ensures
