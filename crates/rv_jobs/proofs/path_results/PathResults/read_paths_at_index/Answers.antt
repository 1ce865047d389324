use Rattle.std.proofs.Common.{◌∙◌, sym}
use Rattle.rv_lists.specs.Jobs.{single_job}
use Rattle.std.proofs.Common.{[]}
use Rattle.rv_jobs.specs.Plans.{paths_of}
use Rattle.rv_jobs.proofs.Noting.{noted_old, noted_more}
use Rattle.rv_jobs.proofs.path_results.PathResults.read_paths_at_index.Goals as goal

pub returns-then-is_some-clause-paths : goal.returns-then-is_some-clause-paths
returns-then-is_some-clause-paths g c =
    noted_old (paths_of c.args.self) c.args.jobs.now c.args.recorded.now.items c.args.index (single_job [] 0 [])
    c.index.result.now c.requires.recorded c.requires.index c.index.ensures (sym c.is_some.ensures ∙ c.if-is_some.true)

pub returns-clause-recorded : goal.returns-clause-recorded
returns-clause-recorded g c =
    noted_more (paths_of c.args.self) (paths_of c.in_ok-results.results) c.args.jobs.now c.args.recorded.now.items
    c.args.index
    c.index-jobs-index.result c.in_ok-results.indices c.requires.recorded c.requires.index c.index-jobs-index.is
    c.in_ok-results.ensures.paths c.in_ok-results.ensures.indices
