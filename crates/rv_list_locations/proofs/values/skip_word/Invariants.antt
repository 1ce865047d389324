use Rattle.std.proofs.Common.{◌≡◌, ◌≤◌, length}
use denote.Shadow.{shadow}
use denote.Text.{Utf8}
use Rattle.rv_list_locations.specs.JobLocations.{after_word_bytes}
use Rattle.rv_list_locations.proofs.values.skip_word.Given as goal

abbrev pub invariant-letters : goal.invariant-letters
invariant-letters l =
    shadow (Utf8 l.rest) × (length l.rest ≤ length l.text) × (after_word_bytes l.rest ≡ after_word_bytes l.text)
    × (length l.rest ≡ length l.text → l.rest ≡ l.text)

abbrev pub decreases-letters : goal.decreases-letters
decreases-letters l = length l.rest
