use Rattle.rv_jobs.proofs.Planning.{image_within, image_at}
use Rattle.rv_jobs.proofs.plan.Plan.image.Goals as goal

pub result_at_or_unreadable-requires : goal.result_at_or_unreadable-requires
result_at_or_unreadable-requires c = image_within c.self.inside c.self.invariant c.args.self.now c.self.view_is c.args.i c.requires
    c.index.result.now c.index.ensures

pub returns : goal.returns
returns c = λ d. c.result_at_or_unreadable.ensures _
    (image_at c.self.inside c.self.invariant c.args.self.now c.self.view_is c.args.i c.requires c.index.result.now
    c.index.ensures d)
