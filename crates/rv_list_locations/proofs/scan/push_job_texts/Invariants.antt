use Rattle.std.proofs.Common.{◌≡◌, ◌<◌, ◌++◌, ℕ, length}
use denote.Shadow.{shadow}
use denote.Text.{Utf8}
use Rattle.rv_list_locations.specs.JobLocations.{job_texts_from, jobs_of_text}
use Rattle.rv_list_locations.specs.Steps.{texts_of_references}
use Rattle.rv_list_locations.proofs.scan.push_job_texts.Given as goal

abbrev pub invariant-steps : goal.invariant-steps
invariant-steps l =
    shadow (Utf8 l.here) × (m : ℕ) × (length l.here < m)
    × (texts_of_references l.initial.jobs.items ++ jobs_of_text l.text ≡ texts_of_references l.jobs.items ++ job_texts_from m l.state l.here)

abbrev pub decreases-steps : goal.decreases-steps
decreases-steps l = length l.here
