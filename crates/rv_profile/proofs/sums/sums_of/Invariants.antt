-- Those of the spots so far.
use Rattle.std.proofs.Common.{◌≡◌, take, true}
use Rattle.rv_profile.specs.ImageStacks.{fit_in_64_bits, sums_of}
use Rattle.rv_profile.proofs.sums.sums_of.Given as goal

abbrev pub invariant-loop-node : goal.invariant-loop-node
invariant-loop-node l = record { is : l.sums ≡ sums_of (take l.node-index l.nodes); few : fit_in_64_bits l.sums ≡ true }
