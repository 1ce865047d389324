use Rattle.std.proofs.Common.{length}
use denote.Shadow.{shadow}
use denote.Text.{Utf8}
use Rattle.std.specs.List.{All}
use Rattle.rv_list_locations.specs.NamedKeys.{IsNamedKey}
use Rattle.rv_list_locations.proofs.keys.push_job_keys.Given as goal

abbrev pub invariant-keys : goal.invariant-keys
invariant-keys l = shadow (Utf8 l.here) × All IsNamedKey l.keys.items

abbrev pub decreases-keys : goal.decreases-keys
decreases-keys l = length l.here
