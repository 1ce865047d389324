use Rattle.std.proofs.Common.{length}
use denote.Shadow.{shadow}
use denote.Text.{Utf8}
use Rattle.rv_list_locations.proofs.repeated_keys.repeated_key_in_inline_table.Given as goal

abbrev pub invariant-tokens : goal.invariant-tokens
invariant-tokens l = shadow (Utf8 l.here)

abbrev pub decreases-tokens : goal.decreases-tokens
decreases-tokens l = length l.here
