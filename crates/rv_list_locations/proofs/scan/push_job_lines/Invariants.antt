use Rattle.std.proofs.Common.{◌≡◌, ◌+◌, ◌<◌, ◌≤◌, ◌++◌, ℕ, length, map}
use denote.Shadow.{shadow}
use denote.Text.{Utf8}
use Rattle.rv_list_locations.specs.JobLocations.{job_texts_from, jobs_of_text, line_of_suffix}
use Rattle.rv_list_locations.proofs.scan.push_job_lines.Given as goal

abbrev pub invariant-steps : goal.invariant-steps
invariant-steps l =
    shadow (Utf8 l.here) × (l.lines.text.now ≡ l.initial.lines.text.now)
    × (l.lines.offset + length l.here ≤ length l.initial.lines.text.now)
    × (m : ℕ) × (length l.here < m)
    × (l.initial.lines.recorded.items ++ map (line_of_suffix l.initial.lines.text.now) (jobs_of_text l.text)
    ≡ l.lines.recorded.items ++ map (line_of_suffix l.initial.lines.text.now) (job_texts_from m l.state l.here))

abbrev pub decreases-steps : goal.decreases-steps
decreases-steps l = length l.here
