-- Those of the names so far.
use Rattle.std.proofs.Common.{◌≡◌, map, take}
use Rattle.rv_profile.specs.Profile.{function_counts, profiles_of}
use Rattle.rv_profile.proofs.functions.functions_of_stacks.Given as goal

abbrev pub invariant-loop-named : goal.invariant-loop-named
invariant-loop-named l = profiles_of l.functions.items ≡ map (function_counts l.stacks.nodes.now) (take l.named-index l.stacks.names.now)
