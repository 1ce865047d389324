use Rattle.std.proofs.Common.{◌∙◌, ap, map}
use Rattle.rv_jobs.specs.declared.path_results.PathResult.{PathResult}
use Rattle.rv_jobs.specs.PathResultsInside.{paths_in}
use Rattle.rv_jobs.proofs.Answering.{kept-with}
use Rattle.rv_jobs.proofs.path_results.PathResults.into_results.Goals as goal

pub returns : goal.returns
returns c = kept-with (paths_in c.self.inside) c.self.inside.results.items c.self.invariant.same_length
    ∙ ap (map (λ (a : PathResult). a.kept)) c.self.view_is
