use Rattle.std.proofs.Common.{length}
use denote.Shadow.{shadow}
use denote.Text.{Utf8}
use Rattle.rv_list_locations.proofs.repeated_keys.find_repeated_key.Given as goal

abbrev pub invariant-steps : goal.invariant-steps
invariant-steps l = shadow (Utf8 l.here) × shadow (Utf8 l.table)

abbrev pub decreases-steps : goal.decreases-steps
decreases-steps l = length l.here
