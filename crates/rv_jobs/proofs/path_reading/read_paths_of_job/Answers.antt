use Rattle.std.proofs.Common.{◌≡◌, ◌∙◌, ap}
use Rattle.rv_jobs.specs.Plans.{paths_of, with_path, with_path_if_any}
use Rattle.rv_jobs.proofs.Answering.{placed_all}
use Rattle.rv_jobs.proofs.path_reading.read_paths_of_job.Goals as goal

pub returns-clause-indices : goal.returns-clause-indices
returns-clause-indices g c =
    placed_all (paths_of c.in_ok-first.first) (paths_of c.in_ok-second.second) (paths_of c.in_ok-third.third)
    c.args.job.now c.in_ok-first.image c.in_ok-second.reference c.in_ok-third.console c.as_str.result.now
    _ _ c.as_str.ensures c.reference_path.ensures c.console_path.ensures c.in_ok-first.ensures.index
    c.in_ok-second.ensures.paths c.in_ok-second.ensures.index
    c.in_ok-third.ensures.paths c.in_ok-third.ensures.index

pub returns-clause-paths : goal.returns-clause-paths
returns-clause-paths g c =
    let asked = paths_of c.args.results in
    let job = c.args.job.now in
    let first : paths_of c.in_ok-first.first ≡ with_path asked job.image =
    c.in_ok-first.ensures.paths ∙ ap (with_path asked) c.as_str.ensures in
    let second : paths_of c.in_ok-second.second ≡ with_path_if_any (with_path asked job.image) job.expect_signature =
    c.in_ok-second.ensures.paths ∙ (λ i. with_path_if_any (first i) (c.reference_path.ensures i)) in
    c.in_ok-third.ensures.paths ∙ (λ i. with_path_if_any (second i) (c.console_path.ensures i))
