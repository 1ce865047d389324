use Rattle.std.proofs.Common.{◌∙◌, ap, sym}
use Rattle.rv_jobs.specs.PathResultsInside.{paths_in}
use Rattle.rv_lists.specs.Names.{index_in}
use Rattle.rv_jobs.specs.Plans.{paths_of}
use Rattle.rv_jobs.proofs.Answering.{paths-with}
use Rattle.rv_jobs.proofs.path_results.PathResults.index_of_path.Goals as goal

pub returns : goal.returns
returns c =
    c.copied.ensures ∙ c.get.ensures.value ∙ c.self.invariant.indices c.args.path.now
    ∙ ap (λ l. index_in l c.args.path.now)
    (sym (paths-with (paths_in c.self.inside) c.self.inside.results.items c.self.invariant.same_length)
    ∙ ap paths_of c.self.view_is)
