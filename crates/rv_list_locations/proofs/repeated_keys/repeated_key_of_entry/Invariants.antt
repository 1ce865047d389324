use Rattle.std.proofs.Common.{length}
use denote.Shadow.{shadow}
use denote.Text.{Utf8}
use Rattle.rv_list_locations.proofs.repeated_keys.repeated_key_of_entry.Given as goal

abbrev pub invariant-entries : goal.invariant-entries
invariant-entries l = shadow (Utf8 l.here)

abbrev pub decreases-entries : goal.decreases-entries
decreases-entries l = length l.here
