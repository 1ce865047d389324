use Rattle.std.proofs.Common.{◌≡◌, ◌+◌, ◌<◌, ◌≤◌, ℕ, length, suc}
use denote.Shadow.{shadow}
use denote.Text.{Utf8}
use Rattle.rv_list_locations.specs.JobLocations.{after_brackets}
use Rattle.rv_list_locations.proofs.values.skip_brackets.Given as goal

abbrev pub invariant-tokens : goal.invariant-tokens
invariant-tokens l =
    shadow (Utf8 l.rest) × (length l.rest ≤ length l.text) × (l.depth + length l.rest ≤ length l.text)
    × (m : ℕ) × (length l.rest < m)
    × (after_brackets (suc (length l.text)) 0 l.text ≡ after_brackets m l.depth l.rest)

abbrev pub decreases-tokens : goal.decreases-tokens
decreases-tokens l = length l.rest
