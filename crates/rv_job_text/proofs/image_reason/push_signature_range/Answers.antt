use Rattle.rv_text.proofs.Public.{ended}
use Rattle.rv_job_text.specs.ImageReasons.{signature_range_text}
use Rattle.rv_job_text.proofs.image_reason.push_signature_range.Goals as goal

pub push_signature_ends-requires : goal.push_signature_ends-requires
push_signature_ends-requires c =
    let named = rw c.in-Some.is at c.requires.named in
    record { image = c.requires.image; begins = named.0; ends = named.1 }

pub returns-in_ok-push_signature_ends-in-Some : goal.returns-in_ok-push_signature_ends-in-Some
unfolding signature_range_text
returns-in_ok-push_signature_ends-in-Some c =
    rw c.in-Some.is (ended _ _ _ _ _ _ c.in_ok-push_signature_ends-in-Some.ensures c.push_regions.ensures)
