use Rattle.std.proofs.Common.{length}
use Rattle.rv_accept.proofs.intended_jobs.+regions_match.Given as goal

abbrev pub decreases-regions_match : goal.decreases-regions_match
decreases-regions_match l = length l.regions.now
