use Rattle.std.proofs.Common.{sym, subst, ap}
use Rattle.std.proofs.Common.{◌<◌}
use Rattle.rv_jobs.specs.PlanInside.{paths_read}
use Rattle.rv_jobs.specs.Plans.{PlanView}
use Rattle.rv_jobs.proofs.Answering.{kept_below, kept_in, kept_not_in}
use Rattle.rv_jobs.proofs.plan.Plan.result_at_or_unreadable.Goals as goal

pub index-requires : goal.index-requires
index-requires c =
    subst (λ n. c.in-Some.index < n) (sym c.self.inside.results.ok.0)
    (kept_below c.args.self.now.results (paths_read c.self.inside) c.self.inside.results.items c.self.invariant.same_length
    (ap (λ (p : PlanView). p.results) c.self.view_is) c.args.index c.in-Some.index c.in-Some.is c.requires)

pub returns-in-Some : goal.returns-in-Some
returns-in-Some c = λ path placed.
    kept_in c.args.self.now.results (paths_read c.self.inside) c.self.inside.results.items c.self.invariant.same_length
    (ap (λ (p : PlanView). p.results) c.self.view_is) c.args.index c.in-Some.index c.index.result.now path c.in-Some.is
    c.index.ensures placed

pub returns-in-None : goal.returns-in-None
returns-in-None c = λ path placed.
    kept_not_in c.args.self.now.results (paths_read c.self.inside) c.self.inside.results.items c.self.invariant.same_length
    (ap (λ (p : PlanView). p.results) c.self.view_is) c.args.index c.self.inside.not_read path c.in-None.is
    c.self.invariant.not_read placed
